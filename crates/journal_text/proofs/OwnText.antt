-- What was read of a text, written again and compared.
use Rattle.journal_text.proofs.Common.{◌≡◌, ℕ, true, false, true≢false, List, Some, None, sym, ap, ◌∙◌, same_Some, some_none, same_text, same_text_decides, Form, Line, line_text, IsLine, candidate_of}
use Rattle.journal_text.proofs.LinesBack.{line_back}

-- a text whose line is written the same is the line's
pub is_own : (form : Form) (text : List ℕ) (l : Line) → same_text (line_text form l) text ≡ true → text ≡ line_text form l
is_own form text l same = sym ((same_text_decides (line_text form l) text).0 same)

-- a text whose line is written otherwise is no line's
pub is_none : (form : Form) (text : List ℕ) (read : Line) → candidate_of form text ≡ Some read → same_text (line_text form read) text ≡ false → (l : Line) → IsLine form l → text ≡ line_text form l → ⊥
is_none form text read gives other l is own =
    let same : read ≡ l = same_Some read l (sym gives ∙ ap (candidate_of form) own ∙ (line_back form l is).is) in
    true≢false (sym ((same_text_decides (line_text form read) text).1 (ap (line_text form) same ∙ sym own)) ∙ other)

-- a text that isn't read at all is no line's
pub is_unread : (form : Form) (text : List ℕ) → candidate_of form text ≡ None → (l : Line) → IsLine form l → text ≡ line_text form l → ⊥
is_unread form text none l is own = some_none (candidate_of form text) l none (ap (candidate_of form) own ∙ (line_back form l is).is)
