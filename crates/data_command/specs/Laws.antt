-- What a crash may leave of a folder, at any moment of a run, and as what that opens.
use Rattle.std.specs.Prelude.{◌≡◌, ◌⊎◌, ◌++◌, ℕ, List, [], Option, Some}
use Rattle.silo_model.specs.Opening.{opening}
use Rattle.silo_model.specs.Segments.{untold}
use Rattle.log_text.specs.Lines.{IsPrefixOf}
use Rattle.log_text.specs.Head.{head_text}
use Rattle.log_text.specs.Sums.{spelled}
use Rattle.log_host.specs.Acts.{Act, MayLeave}
use Rattle.log_host.specs.Lasting.{lines_in}
use Rattle.log_answer.specs.Answers.{led, told_for}
use Rattle.silo_checkpoint.specs.Saved.{HasText, sum_in}
use Rattle.command_parts.specs.Setups.{Start}
use Rattle.data_command.specs.Data.{LastsOn, LogClaims, TakesPlace, acted, data_log}
use Rattle.data_command.specs.Words.{head_words}

module _ (start : Start) (sends : ℕ) (log : LogClaims) (on : LastsOn start sends log) (point : Option (List ℕ)) (file told : List ℕ) where
  -- the log of that number has its head, and this behind it
  abbrev pub HasBehindIt : List ℕ → List ℕ → Type 0
  HasBehindIt number left = file ≡ head_text (head_words start sends) number ++ left

  -- After some of the acts the checkpoint is the one that was there, if one was, and of the log there is all that was brought to the disk,
  -- and anything behind it.
  pub record IsLeftBefore : Type 0 where
    pub first : List Act
    pub others : List Act
    pub are : on.acts ≡ first ++ others
    pub same : point ≡ log.old.past.point
    pub left : List ℕ
    pub may : MayLeave (acted start sends on.number on.bytes first) left
    pub has : HasBehindIt on.number left
    pub said : told ≡ (acted start sends on.number on.bytes first).said

  -- Behind the last act a checkpoint is in its place, and the log is the one that it replaces, or the new one with anything behind its
  -- head.
  pub record IsLeftBehind : Type 0 where
    pub next : Start
    pub version : next.version ≡ start.version
    pub text : List ℕ
    pub takes : TakesPlace start sends on.number on.bytes on.acts next.setup text
    pub placed : point ≡ Some text
    pub left : List ℕ
    pub has : HasBehindIt on.number left ⊎ HasBehindIt (spelled (sum_in text)) left
    pub said : told ≡ (acted start sends on.number on.bytes on.acts).said

  -- The log is answered again from where the silo started.
  pub record OpensAsBefore (lines : List (List ℕ)) (own : Start) : Type 0 where
    pub is : own ≡ start
    pub left : List ℕ
    pub has : HasBehindIt on.number left
    pub lines_are : lines ≡ lines_in (data_log start sends on.number) left

  -- The silo starts with what the checkpoint says. Its own log is answered again, and the one that it replaced isn't.
  pub record OpensAsSaved (lines : List (List ℕ)) (own : Start) : Type 0 where
    pub text : List ℕ
    pub there : point ≡ Some text
    pub says : HasText text (record { follows = on.number; kinds = start.version.number; sends = sends; setup = own.setup })
    pub version : own.version ≡ start.version
    pub left : List ℕ
    pub log_is : (HasBehindIt on.number left × (lines ≡ []))
        ⊎ (HasBehindIt (spelled (sum_in text)) left × (lines ≡ lines_in (data_log own sends (spelled (sum_in text))) left))

  -- A start leads where some lines lead from where this run started, but for the replies, and what was told is the beginning of what these
  -- lines are told.
  pub record StandsTold : Type 0 where
    pub own : Start
    pub lines : List (List ℕ)
    pub opens : OpensAsBefore lines own ⊎ OpensAsSaved lines own
    pub all : List (List ℕ)
    pub leads : untold (led own.version.logic sends (opening own.setup) lines)
        ≡ untold (led start.version.logic sends (opening start.setup) all)
    pub covered : IsPrefixOf told (told_for start.version.logic sends (opening start.setup) all)

-- However a run goes on, whatever a crash leaves of the folder at any moment opens as where all that was told leads.
abbrev pub CrashesStand : Type 0
CrashesStand = (start : Start) (sends : ℕ) (log : LogClaims) (on : LastsOn start sends log) (point : Option (List ℕ)) (file told : List ℕ)
    → IsLeftBefore start sends log on point file told ⊎ IsLeftBehind start sends log on point file told
    → StandsTold start sends log on point file told
