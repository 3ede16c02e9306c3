-- What the parts of the reader answer.
use Rattle.std.specs.Prelude.{◌≡◌, ◌≢◌, ℕ, ◌<◌, List, ◌∷◌, ◌++◌, length, slice_index, true, false, Option, Some, None}
use Rattle.std.specs.Prelude.{Result, Ok, Err, IsTrue}
use Rattle.std.specs.List.{list_all}
use Rattle.journal_text.specs.declared.fault.JournalFault.{JournalFault}
use Rattle.journal_text.specs.declared.fault.JournalFault.TheVariants as journal_faults
use Rattle.journal_text.specs.declared.fault.LineFault.{LineFault}
use Rattle.journal_text.specs.declared.fault.LineFault.TheVariants as faults
use Rattle.journal_text.specs.declared.form.Form.{Form}
use Rattle.journal_text.specs.declared.line.Line.{Line}
use Rattle.journal_text.specs.declared.line.Line.TheVariants as line
use Rattle.tenant_gate.specs.Age.{IsAge}
use Rattle.journal_text.specs.RecordedFault.{is_text_byte}
use Rattle.journal_text.specs.Form.{tells_kinds}
use Rattle.journal_text.specs.Text.{History, line_text, lines_text, kinds_lines, start_lines, text_in}
use Rattle.journal_text.specs.Rules.{IsKinds, IsLine, KeepsRulesIn}
use Rattle.journal_text.specs.FirstFault.{IsFirstFault}

-- ---- of a field and a line

-- NoForm is answered exactly if nothing was found.
abbrev pub Misses : {A : Type 0} → LineFault → Option A → Type 0
Misses faults.NoForm found = found ≡ None
Misses faults.Memory found = Unit {0}

-- The answer, seen by view, is what was found, if anything was.
abbrev pub Reads : {X A : Type 0} → (X → A) → Result X LineFault → Option A → Type 0
Reads view (Ok x) found = found ≡ Some (view x)
Reads view (Err why) found = Misses why found

-- The bytes are the text of the line that is answered; NoForm is answered only if they are the text of none.
abbrev pub ReadsLine : Form → List ℕ → Result Line LineFault → Type 0
ReadsLine form bytes (Ok l) = IsLine form l × (bytes ≡ line_text form l)
ReadsLine form bytes (Err faults.NoForm) = (l : Line) → IsLine form l → bytes ≡ line_text form l → ⊥
ReadsLine form bytes (Err faults.Memory) = Unit {0}

-- ---- of lines within a journal

abbrev pub HasNoBreak : List ℕ → Type 0
HasNoBreak bytes = (k : ℕ) → k < length bytes → slice_index bytes k ≢ 10

-- A text without LF, an LF and what stands behind it are the bytes; there is none only if no text of visible ASCII and
-- spaces, and an LF, begin them.
abbrev pub CutsLine : List ℕ → Option (List ℕ × List ℕ) → Type 0
CutsLine bytes (Some cut) = HasNoBreak cut.0 × (bytes ≡ cut.0 ++ 10 ∷ cut.1)
CutsLine bytes None = (text behind : List ℕ) → list_all is_text_byte text ≡ true → bytes ≡ text ++ 10 ∷ behind → ⊥

-- The line, an LF and what stands behind it are the bytes; there is none only if no line and an LF begin them.
abbrev pub BeginsWithLine : Form → List ℕ → Option (Line × List ℕ) → Type 0
BeginsWithLine form bytes (Some next) = IsLine form next.0 × (bytes ≡ line_text form next.0 ++ 10 ∷ next.1)
BeginsWithLine form bytes None = (l : Line) (behind : List ℕ) → IsLine form l → bytes ≡ line_text form l ++ 10 ∷ behind → ⊥

-- The same of the head, with its form and what stands behind it.
abbrev pub BeginsWithHead : List ℕ → Option (Form × List ℕ) → Type 0
BeginsWithHead bytes (Some next) = bytes ≡ line_text next.0 line.Head ++ 10 ∷ next.1
BeginsWithHead bytes None = (form : Form) (behind : List ℕ) → bytes ≡ line_text form line.Head ++ 10 ∷ behind → ⊥

-- The same of the number of a logic, with what stands behind it.
abbrev pub BeginsWithKinds : Form → List ℕ → Option (ℕ × List ℕ) → Type 0
BeginsWithKinds form bytes (Some next) = IsKinds next.0 × (bytes ≡ line_text form (line.Kinds next.0) ++ 10 ∷ next.1)
BeginsWithKinds form bytes None =
    (kinds : ℕ) (behind : List ℕ) → IsKinds kinds → bytes ≡ line_text form (line.Kinds kinds) ++ 10 ∷ behind → ⊥

-- The same of an age, with what stands behind it.
abbrev pub BeginsWithAge : Form → List ℕ → Option (ℕ × List ℕ) → Type 0
BeginsWithAge form bytes (Some next) = IsAge next.0 × (bytes ≡ line_text form (line.Age next.0) ++ 10 ∷ next.1)
BeginsWithAge form bytes None = (age : ℕ) (behind : List ℕ) → IsAge age → bytes ≡ line_text form (line.Age age) ++ 10 ∷ behind → ⊥

-- What the first lines say: the form, the number of the logic and the age, and what stands behind them.
pub record Start : Type 0 where
  pub form : Form
  pub kinds : ℕ
  pub age : ℕ
  pub behind : List ℕ

abbrev pub start_of : Form → ℕ → ℕ → List ℕ → Start
start_of form kinds age behind = record { form = form; kinds = kinds; age = age; behind = behind }

-- The number is a logic's, and the first's if the form doesn't tell it.
abbrev pub AreKinds : Form → ℕ → Type 0
AreKinds form kinds = IsKinds kinds × (tells_kinds form ≡ false → kinds ≡ 1)

-- Which logic the kinds have, and what stands behind its line, where the form has one; there is none only if that is missing.
abbrev pub TakesKinds : Form → List ℕ → Option (ℕ × List ℕ) → Type 0
TakesKinds form bytes (Some next) = AreKinds form next.0 × (bytes ≡ lines_text form (kinds_lines form next.0) ++ next.1)
TakesKinds form bytes None = IsTrue (tells_kinds form) × BeginsWithKinds form bytes None

-- The first lines and what stands behind them are the bytes.
abbrev pub IsStart : List ℕ → Start → Type 0
IsStart bytes s = AreKinds s.form s.kinds × IsAge s.age × (bytes ≡ lines_text s.form (start_lines s.form s.kinds s.age) ++ s.behind)

-- The first lines are read; else the line that is answered is the first at fault.
abbrev pub ReadsStart : {X : Type 0} → (X → Start) → List ℕ → Result X JournalFault → Type 0
ReadsStart view bytes (Ok x) = IsStart bytes (view x)
ReadsStart view bytes (Err (journal_faults.At number)) = IsFirstFault bytes number
ReadsStart view bytes (Err journal_faults.Memory) = Unit {0}

-- The bytes are the text of the journal that is answered, in that form, whose rules it keeps; else the line that is
-- answered is the first at fault.
abbrev pub ReadsRest : Form → List ℕ → Result History JournalFault → Type 0
ReadsRest form bytes (Ok j) = KeepsRulesIn form j × (bytes ≡ text_in form j)
ReadsRest form bytes (Err (journal_faults.At number)) = IsFirstFault bytes number
ReadsRest form bytes (Err journal_faults.Memory) = Unit {0}
