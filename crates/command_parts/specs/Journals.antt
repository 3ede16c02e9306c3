-- The journal of a silo of a version.
use Rattle.std.specs.Prelude.{List, ℕ, All, None}
use Rattle.silo_core.specs.History as silo
use Rattle.journal_text.specs.JournalAnswers.{IsJournalText}
use Rattle.journal_text.specs.Rules.{AsksInRange, IsKinds}
use Rattle.journal_text.specs.Text.{History, journal_text}
use Rattle.audit_model.specs.Report.{IsFirstDifference}
use Rattle.silo_journal.specs.SiloJournal.{journal_of}
use Rattle.command_parts.specs.Setups.{Version}

-- the journal of a silo of this version, under its number
abbrev pub silo_journal : Version → silo.History → History
silo_journal version silo = journal_of version.number silo

-- In the journal of the silo no tenant differs from its machine, under the version's logic.
abbrev pub HasNoDifference : Version → silo.History → Type 0
HasNoDifference version silo = (tenant : List ℕ) → IsFirstDifference version.logic (silo_journal version silo) tenant None

-- The text of the silo's journal is read as that journal again, if a journal may tell the version's number, and each client asked under
-- a number below 2^63.
abbrev pub ReadsAgain : Version → silo.History → Type 0
ReadsAgain version silo = IsKinds version.number → All AsksInRange silo.journal
    → IsJournalText (journal_text (silo_journal version silo)) (silo_journal version silo)
