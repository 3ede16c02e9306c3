-- Logs that follow one another in a run: a checkpoint took the place of each but the last.
use Rattle.std.specs.Prelude.{◌≡◌, ◌⊎◌, ◌++◌, ℕ, List, [], ◌∷◌, IfSome, Option, Some}
use Rattle.line_text.specs.Lines.{lines_of}
use Rattle.log_host.specs.Files.{IsAt}
use Rattle.log_host.specs.Laws.{restarted}
use Rattle.log_answer.specs.Runs.{KeepsLines}
use Rattle.command_parts.specs.Setups.{Start, started}
use Rattle.data_command.specs.Data.{HasLines, IsReplaced, LastsOn, LogClaims, LogView, data_log, since}

-- A log that was passed: the lines that it got, the start from which the silo goes on, and what was known of the log then.
pub record Passed : Type 0 where
  pub lines : List (List ℕ)
  pub next : Start
  pub view : LogView

-- the lines of all of them
abbrev pub lines_passed : List Passed → List (List ℕ)
lines_passed [] = []
lines_passed (p ∷ passed) = p.lines ++ lines_passed passed

module _ (sends : ℕ) where
  -- The log lasted at each moment, it had these lines behind those that were found, and then a checkpoint took its place, with which the
  -- next silo starts.
  pub record Passes (start : Start) (old : LogView) (p : Passed) : Type 0 where
    pub on : LastsOn start sends (since old p.view)
    pub keeps : KeepsLines (data_log start sends on.number) (restarted (data_log start sends on.number) on.bytes) p.lines [] (Some on.acts)
    pub is : IsReplaced start sends (since old p.view) on.number on.bytes on.acts
    pub next_is : p.next ≡ started start.version is.next

  -- the same of some logs, each in the place of the one before
  abbrev pub PassesAll : Start → LogView → List Passed → Start → LogView → Type 0
  PassesAll start old [] own view = (own ≡ start) × (view ≡ old)
  PassesAll start old (p ∷ passed) own view = Passes start old p × PassesAll p.next p.view passed own view

-- Some logs were passed, and this holds of the last one.
pub record AtLast (start : Start) (sends : ℕ) (log : LogClaims) (Holds : List (List ℕ) → Start → LogClaims → Type 0) : Type 0 where
  pub passed : List Passed
  pub own : Start
  pub view : LogView
  pub passes : PassesAll sends start log.old passed own view
  pub holds : Holds (lines_passed passed) own (since view log.new)

module _ (start : Start) (sends : ℕ) (log : LogClaims) where
  -- if the log is known: the last log goes on behind the batches that it began with, and lasts at each moment
  abbrev pub RunCuts : Type 0
  RunCuts = log.old.acts ≡ Some [] → AtLast start sends log (λ lines own last. LastsOn own sends last)

  -- the same, or nothing was done
  abbrev pub RunLasts : Type 0
  RunLasts = log.old.acts ≡ Some []
      → (IsAt log.new.acts log.new.begun log.old.begun × (log.new.past ≡ log.old.past))
      ⊎ AtLast start sends log (λ lines own last. LastsOn own sends last)

  -- if the input is known too: the logs have its lines, the last one those that the others don't have
  abbrev pub RunHas : Option (List ℕ) → Type 0
  RunHas from = log.old.acts ≡ Some []
      → IfSome from (λ input. AtLast start sends log (λ lines own last.
      (others : List (List ℕ)) × HasLines own sends last others × (lines_of input ≡ lines ++ others)))
