-- Where the lines of all logs lead that a run passed.
use Rattle.std.specs.Prelude.{◌≡◌, ◌++◌, ℕ, List, [], ◌∷◌}
use Rattle.silo_model.specs.Opening.{opening}
use Rattle.silo_model.specs.Segments.{untold}
use Rattle.log_host.specs.Acts.{Held}
use Rattle.log_host.specs.Lasting.{lines_in}
use Rattle.log_answer.specs.Answers.{led, told_for}
use Rattle.command_parts.specs.Setups.{Start}
use Rattle.data_command.specs.Data.{LogView, acted, data_log}
use Rattle.data_command.specs.Passing.{Passed, Passes, PassesAll}

module _ (sends : ℕ) where
  -- what a log held when a checkpoint took its place
  abbrev pub held_by : (start : Start) (old : LogView) (p : Passed) → Passes sends start old p → Held
  held_by start old p passes = acted start sends passes.on.number passes.on.bytes passes.on.acts

  -- its lines, those that were found there with those that it got
  abbrev pub lines_had : (start : Start) (old : LogView) (p : Passed) → Passes sends start old p → List (List ℕ)
  lines_had start old p passes = lines_in (data_log start sends passes.on.number) (held_by start old p passes).file

  -- the lines of all logs that were passed, in their order
  abbrev pub all_had : (start : Start) (old : LogView) (passed : List Passed) (own : Start) (view : LogView)
      → PassesAll sends start old passed own view → List (List ℕ)
  all_had start old [] own view all = []
  all_had start old (p ∷ passed) own view all = lines_had start old p all.0 ++ all_had p.next p.view passed own view all.1

  -- what was told for them
  abbrev pub all_said : (start : Start) (old : LogView) (passed : List Passed) (own : Start) (view : LogView)
      → PassesAll sends start old passed own view → List ℕ
  all_said start old [] own view all = []
  all_said start old (p ∷ passed) own view all = (held_by start old p all.0).said ++ all_said p.next p.view passed own view all.1

-- However many logs a run passed: from the start of the last one lines lead where they lead from where the run started, behind the lines
-- of all the logs before, but for the replies. And what is told for them, behind what was told for those, is what a silo tells that is
-- asked all of them one after another.
abbrev pub LogsLeadOn : Type 0
LogsLeadOn = (sends : ℕ) (start : Start) (old : LogView) (passed : List Passed) (own : Start) (view : LogView)
    (all : PassesAll sends start old passed own view) (lines : List (List ℕ))
    → (untold (led own.version.logic sends (opening own.setup) lines)
    ≡ untold (led start.version.logic sends (opening start.setup) (all_had sends start old passed own view all ++ lines)))
    × (all_said sends start old passed own view all ++ told_for own.version.logic sends (opening own.setup) lines
    ≡ told_for start.version.logic sends (opening start.setup) (all_had sends start old passed own view all ++ lines))
