-- What the lines of a log lead to, and what they answer.
use Rattle.std.specs.Prelude.{◌≡◌, ℕ, Bool, List, flat_map, length, map, take}
use Rattle.grain_logic.specs.Logic.{Logic}
use Rattle.silo_model.specs.Opening.{Setup}
use Rattle.silo_model.specs.Whole.{Whole, shown_to}
use Rattle.silo_core.specs.History.{History}
use Rattle.line_text.specs.Limits.{kept_limit}
use Rattle.line_text.specs.LineTexts.{said_lines}
use Rattle.answer_model.specs.Answering.{all_answered, machine_stepper, whole_stepper}
use Rattle.answer_model.specs.Apart.{asked_by}
use Rattle.answer_model.specs.Idle.{AllIdle}
use Rattle.line_answer.specs.Dropped.{Leaves}
use Rattle.line_answer.specs.Texts.{Heard, asks_of, lines_text}
use Rattle.line_answer.specs.Laws.{heard_well}
use Rattle.log_text.specs.Lines.{ended}
use Rattle.log_host.specs.Lasting.{Log}

-- the lines, as they are answered if nothing fails
abbrev pub heard_of : List (List ℕ) → List Heard
heard_of lines = heard_well (said_lines lines)

-- The tenants are the same, with their limits, and so are the ages.
pub record SameTables (old new : Setup) : Type 0 where
  pub tenants : new.tenants ≡ old.tenants
  pub age : new.age ≡ old.age
  pub ages : new.ages ≡ old.ages

-- Of this history the silo has all, or what is left of it if it needn't keep it, over the same tenants.
pub record HasLeft (keeps : Bool) (all new : History) : Type 0 where
  pub leaves : Leaves keeps all new
  pub tables : SameTables all.setup new.setup

module _ (logic : Logic) (n : ℕ) where
  -- where a silo is that answered these lines, from where it was
  abbrev pub led : Whole → List (List ℕ) → Whole
  led w lines = all_answered (whole_stepper logic) n w (asks_of (heard_of lines))

  -- and what it told for them
  abbrev pub told_for : Whole → List (List ℕ) → List ℕ
  told_for w lines = lines_text (whole_stepper logic) n w (heard_of lines)

  -- The log of a silo that was there when its first line was asked: its lines answer what the silo tells for them.
  abbrev pub silo_log : Whole → List ℕ → ℕ → Log
  silo_log w name first = record { name = name; first = first; answers = told_for w }

  -- The silo answered these lines and nothing failed. Each tenant is shown what its own machine is after what the tenant and nobody
  -- asked alone.
  pub record IsLed (old : History) (lines : List (List ℕ)) (new : History) : Type 0 where
    pub setup : new.setup ≡ old.setup
    pub whole : new.whole ≡ led old.whole lines
    pub idle : AllIdle new.whole.entries
    pub own : (tenant : List ℕ) → shown_to tenant new.whole
        ≡ all_answered (machine_stepper logic) n (shown_to tenant old.whole) (asked_by tenant (asks_of (heard_of lines)))

  -- The same of a silo where all is idle, and what it told for the lines.
  pub record LeadsLines (old : History) (lines : List (List ℕ)) (new : History) (text : List ℕ) : Type 0 where
    pub setup : new.setup ≡ old.setup
    pub whole : new.whole ≡ led old.whole lines
    pub idle : AllIdle new.whole.entries
    pub text_is : text ≡ told_for old.whole lines

-- The same of a silo that may drop its history: it has what is left of the history to which the lines lead.
pub record LeadsOn (keeps : Bool) (logic : Logic) (n : ℕ) (old : History) (lines : List (List ℕ)) (new : History)
    (text : List ℕ) : Type 0 where
  pub all : History
  pub left : HasLeft keeps all new
  pub leads : LeadsLines logic n old lines all text

-- What a log has of a line: of a long one its first 65,537 bytes, which say as much.
abbrev pub kept_line : List ℕ → List ℕ
kept_line line = take kept_limit line

abbrev pub kept_lines : List (List ℕ) → List (List ℕ)
kept_lines lines = map kept_line lines

-- how many bytes of lines a log gets by these: each as the log has it, with its LF
abbrev pub line_bytes : List (List ℕ) → ℕ
line_bytes lines = length (flat_map ended (kept_lines lines))
