-- Which numbers a silo's journal has.
use Rattle.std.specs.Prelude.{All, List}
use Rattle.silo_event.specs.declared.step.Step.{Step}
use Rattle.grain_logic.specs.Logic.{Logic}
use Rattle.silo_model.specs.Journal.{LeadsTo}
use Rattle.silo_model.specs.Whole.{Whole}
use Rattle.journal_text.specs.Rules.{AsksInRange, HasNumbersInRange}
use Rattle.journal_text.specs.Text.{History}
use Rattle.audit_model.specs.Parts.{Records, setup_of}

-- If each client of a silo that opened with no rows asked under a number in its range, all numbers of its journal are in
-- theirs: those of turns that closed and of clients that were told, too, and the versions of rows begin at 1.
abbrev pub NumbersInRange : Type 0
NumbersInRange = (logic : Logic) (journal : History) (w : Whole) → LeadsTo logic (setup_of journal) journal.steps w → Records journal w
    → All AsksInRange journal.steps → HasNumbersInRange journal
