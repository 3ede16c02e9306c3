-- What the journal of answered lines has.
use Rattle.std.specs.Prelude.{ℕ, List, All}
use Rattle.silo_core.specs.History.{History}
use Rattle.journal_text.specs.Rules.{AsksInRange}
use Rattle.command_parts.specs.Setups.{Start}
use Rattle.line_commands.specs.Answering.{AnswersFirst}

-- The first lines of an input, or all, were answered: in the silo's journal each client asks under a number below 2^63. So the text of
-- that journal is read as it again (`ReadsAgain`).
abbrev pub AnsweredInRange : Type 0
AnsweredInRange = (start : Start) (sends : ℕ) (input : List ℕ) (silo : History) → AnswersFirst start sends input silo
    → All AsksInRange silo.journal
