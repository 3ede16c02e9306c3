-- Journals that have the same text are the same.
use Rattle.journal_text.proofs.Common.{◌≡◌, ℕ, List, [], ◌∷◌, ◌++◌, length, All, Some, ap, sym, subst, ◌∙◌, append_assoc, append-nil, All-head, same_Some, Form, Line, written, History, body, kinds_lines, start_lines, journal_lines, text_in, journal_text, IsAge, IsLine, KeepsRulesIn, lines_so_far}
use Rattle.journal_text.specs.declared.line.Line.TheVariants as line
use Rattle.journal_text.specs.JournalAnswers.{IsJournalText, IsMigrated}
use Rattle.journal_text.proofs.LinesCut.{same_lines}
use Rattle.journal_text.proofs.Drafts.{empty, completed}
use Rattle.journal_text.proofs.Added.{empty_is_draft}
use Rattle.journal_text.proofs.DraftJournals.{All-front, All-back, closed_lines}
use Rattle.journal_text.proofs.Faults.{journal_completed, same_form, text_head}
use Rattle.journal_text.proofs.Forms.{keeps_newest}

-- the age's line, in each form
age_is : (form : Form) (kinds age : ℕ) → All (IsLine form) (start_lines form kinds age) → IsAge age
age_is form kinds age all = All-head (IsLine form) (line.Age age) [] (All-back (IsLine form) (line.Head ∷ kinds_lines form kinds) (line.Age age ∷ []) all)

-- a journal's age is in its range
pub journal_age : (form : Form) (j : History) → KeepsRulesIn form j → IsAge j.age
unfolding journal_lines
journal_age form j keeps =
    age_is form j.kinds j.age
    (All-front (IsLine form) (start_lines form j.kinds j.age) (body j) (All-front (IsLine form) (start_lines form j.kinds j.age ++ body j) (line.Close (length j.steps) ∷ []) keeps.lines))

pub one_journal : (form : Form) (j k : History) → KeepsRulesIn form j → KeepsRulesIn form k → text_in form j ≡ text_in form k → j ≡ k
one_journal form j k keeps also same =
    let lines : journal_lines form j ≡ journal_lines form k = same_lines form (journal_lines form j) (journal_lines form k) keeps.lines also.lines same in
    let start = empty_is_draft form j.kinds j.age (keeps.kinds, λ untold. (keeps.untold untold).0) (journal_age form j keeps) in
    let behind : List Line = body j ++ line.Close (length j.steps) ∷ [] in
    let whole : journal_lines form j ≡ lines_so_far form (empty j.kinds j.age) ++ behind =
    closed_lines form j
    ∙ append_assoc (start_lines form j.kinds j.age) (body j) (line.Close (length j.steps) ∷ [])
    ∙ ap (λ ls. ls ++ behind) (sym (append-nil (start_lines form j.kinds j.age))) in
    let one : completed (empty j.kinds j.age) behind ≡ Some j = journal_completed form j (empty j.kinds j.age) behind keeps start whole in
    let other : completed (empty j.kinds j.age) behind ≡ Some k = journal_completed form k (empty j.kinds j.age) behind also start (sym lines ∙ whole) in
    same_Some j k (sym one ∙ other)

-- bytes are the text of journals in one form alone
pub one_form_of : (bytes : List ℕ) (j k : History) (one : IsJournalText bytes j) (other : IsJournalText bytes k) → one.form ≡ other.form
one_form_of bytes j k one other = same_form one.form other.form bytes (text_head one.form bytes j one.text) (text_head other.form bytes k other.text)

pub one_text_of : (bytes : List ℕ) (j k : History) → IsJournalText bytes j → IsJournalText bytes k → j ≡ k
one_text_of bytes j k one other =
    let same = one_form_of bytes j k one other in
    let keeps : KeepsRulesIn one.form k = subst (λ (form : Form). KeepsRulesIn form k) (sym same) other.keeps in
    let text : bytes ≡ text_in one.form k = subst (λ (form : Form). bytes ≡ text_in form k) (sym same) other.text in
    one_journal one.form j k one.keeps keeps (sym one.text ∙ text)

-- ---- what is migrated

-- what a journal is migrated to is its text in the form in which journals are written
pub migrated_text : (bytes text : List ℕ) (j : History) → IsMigrated bytes text → IsJournalText bytes j → IsJournalText text j
migrated_text bytes text j moved read = record {
  form = written;
  keeps = keeps_newest read.form j read.keeps;
  text = moved.rewritten ∙ ap journal_text (one_text_of bytes moved.journal j moved.read read);
}

pub migrated_form : (bytes text : List ℕ) (j : History) → IsMigrated bytes text → (read : IsJournalText text j) → read.form ≡ written
migrated_form bytes text j moved read =
    one_form_of text j moved.journal read (record {
      form = written;
      keeps = keeps_newest moved.read.form moved.journal moved.read.keeps;
      text = moved.rewritten;
    })

-- what has that form already stays
pub written_text : (bytes text : List ℕ) (j : History) → IsMigrated bytes text → (read : IsJournalText bytes j) → read.form ≡ written → text ≡ bytes
written_text bytes text j moved read is =
    moved.rewritten ∙ ap journal_text (one_text_of bytes moved.journal j moved.read read) ∙ sym (read.text ∙ ap (λ (form : Form). text_in form j) is)
