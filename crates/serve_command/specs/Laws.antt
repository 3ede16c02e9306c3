-- What the journal of served lines has.
use Rattle.std.specs.Prelude.{List, All, Option, Some, ℕ}
use Rattle.journal_text.specs.Rules.{AsksInRange}
use Rattle.command_parts.specs.Setups.{Start}
use Rattle.serve_command.specs.Serving.{LeavesOutcome, Outcome}

-- The lines of an input were served: in the silo's journal each client asks under a number below 2^63. So the text of that journal is
-- read as it again (`ReadsAgain`).
abbrev pub ServedInRange : Type 0
ServedInRange = (start : Start) (input : List ℕ) (left : Option (List ℕ)) (outcome : Outcome)
    → LeavesOutcome start (Some input) left outcome → All AsksInRange outcome.silo.journal
