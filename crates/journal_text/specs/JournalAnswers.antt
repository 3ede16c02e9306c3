-- What reading a journal answers, and what migrating one does.
use Rattle.std.specs.Prelude.{◌≡◌, ◌∷◌, ◌++◌, ℕ, List, [], Result, Ok, Err, Vec, IsTrue}
use Rattle.std.specs.declared.alloc.Global.{Global}
use Rattle.journal_text.specs.declared.fault.JournalFault.{JournalFault}
use Rattle.journal_text.specs.declared.fault.JournalFault.TheVariants as faults
use Rattle.journal_text.specs.declared.form.Form.{Form}
use Rattle.journal_text.specs.declared.line.Line.TheVariants as line
use Rattle.journal_text.specs.Form.{tells_kinds}
use Rattle.journal_text.specs.Text.{History, lines_text, text_in, journal_text}
use Rattle.journal_text.specs.Rules.{IsKinds, KeepsRulesIn}
use Rattle.journal_text.specs.FirstFault.{IsFirstFault}

-- The bytes are the text of the journal in a form whose rules it keeps.
pub record IsJournalText (bytes : List ℕ) (j : History) : Type 0 where
  pub form : Form
  pub keeps : KeepsRulesIn form j
  pub text : bytes ≡ text_in form j

-- The bytes are the text of the journal that is answered; else the line that is answered is the first that fits no form in
-- its place.
abbrev pub ReadsJournal : List ℕ → Result History JournalFault → Type 0
ReadsJournal bytes (Ok j) = IsJournalText bytes j
ReadsJournal bytes (Err (faults.At number)) = IsFirstFault bytes number
ReadsJournal bytes (Err faults.Memory) = Unit {0}

-- The bytes begin with the head of a form whose journals name the version of the logic, and with the line that names this one.
pub record NamesKinds (bytes : List ℕ) (kinds : ℕ) : Type 0 where
  pub form : Form
  pub behind : List ℕ
  pub tells : IsTrue (tells_kinds form)
  pub is : IsKinds kinds
  pub begins : bytes ≡ lines_text form (line.Head ∷ line.Kinds kinds ∷ []) ++ behind

-- The text is of the journal whose text the bytes are, in the form in which journals are written.
pub record IsMigrated (bytes text : List ℕ) : Type 0 where
  pub journal : History
  pub read : IsJournalText bytes journal
  pub rewritten : text ≡ journal_text journal

-- The text of the same journal is answered; else what reading the bytes answers.
abbrev pub MigratesJournal : List ℕ → Result (Vec ℕ Global) JournalFault → Type 0
MigratesJournal bytes (Ok text) = IsMigrated bytes text.items
MigratesJournal bytes (Err fault) = ReadsJournal bytes (Err fault)
