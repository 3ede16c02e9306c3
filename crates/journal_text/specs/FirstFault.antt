-- Which line of some bytes is at fault: the first that fits no form in its place.
use Rattle.std.specs.Prelude.{◌≡◌, ℕ, ◌+◌, List, ◌++◌, length}
use Rattle.journal_text.specs.declared.form.Form.{Form}
use Rattle.journal_text.specs.declared.line.Line.{Line}
use Rattle.journal_text.specs.Text.{History, journal_lines, lines_text, text_in}
use Rattle.journal_text.specs.Rules.{KeepsRulesIn}

-- The lines are the first lines of a journal that keeps the rules of that form.
pub record BeginJournal (form : Form) (lines : List Line) : Type 0 where
  pub journal : History
  pub behind : List Line
  pub keeps : KeepsRulesIn form journal
  pub are_first : journal_lines form journal ≡ lines ++ behind

-- The bytes begin with so many whole lines of that form, which are the first lines of a journal.
pub record LinesFit (form : Form) (bytes : List ℕ) (count : ℕ) : Type 0 where
  pub lines : List Line
  pub behind : List ℕ
  pub whole : bytes ≡ lines_text form lines ++ behind
  pub counted : length lines ≡ count
  pub fit : BeginJournal form lines

-- The same, of one of the forms.
pub record FirstLinesFit (bytes : List ℕ) (count : ℕ) : Type 0 where
  pub form : Form
  pub fit : LinesFit form bytes count

-- The bytes are the text of no journal that keeps the rules of a form.
abbrev pub IsNoJournal : List ℕ → Type 0
IsNoJournal bytes = (form : Form) (j : History) → KeepsRulesIn form j → bytes ≡ text_in form j → ⊥

-- The line of that number, counted from 1, is the first that fits no form in its place: the lines before it are the
-- first lines of a journal, those up to it are those of none, and the bytes are no journal's.
pub record IsFirstFault (bytes : List ℕ) (number : ℕ) : Type 0 where
  pub before : ℕ
  pub counted : number ≡ before + 1
  pub fit : FirstLinesFit bytes before
  pub fits_not : FirstLinesFit bytes number → ⊥
  pub no_journal : IsNoJournal bytes
