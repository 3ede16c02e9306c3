-- Bytes are cut behind a line by its LF, and a line behind its word.
use Rattle.std.proofs.Common.{◌≡◌, ℕ, true, List, [], ◌∷◌, ◌++◌, Some, refl, ap, ◌∙◌, append_assoc}
use Rattle.std.specs.List.{list_all}
use Rattle.grain_id.specs.Order.{same_text_decides}
unfoldable use Rattle.grain_id.specs.Reading.{cut_at}
use Rattle.journal_text.specs.RecordedFault.{is_text_byte}
use Rattle.journal_text.specs.Text.{◌␣◌}
use Rattle.journal_text.proofs.Cuts.{IsField, cut-field, cut-first}
use Rattle.journal_text.proofs.FieldsBack.{plain_more}
use Rattle.checkpoint_text.specs.Text.{ended}
unfoldable use Rattle.checkpoint_text.specs.Text.{named}
use Rattle.checkpoint_text.specs.inside.Reading.{named_at}

cut_line : (xs ys : List ℕ) → list_all is_text_byte xs ≡ true → cut_at 10 (xs ++ 10 ∷ ys) ≡ Some (xs, ys)
cut_line xs ys all = cut-first is_text_byte 10 xs ys refl all

behind_line : (text rest : List ℕ) → ended text ++ rest ≡ text ++ 10 ∷ rest
behind_line text rest = append_assoc text (10 ∷ []) rest

pub named_back : (word fields rest : List ℕ) → IsField word → list_all is_text_byte fields ≡ true → named_at word (named word fields ++ rest) ≡ Some (fields, rest)
unfolding named
named_back word fields rest is plain =
    ap (named_at word) (behind_line (word ␣ fields) rest)
    ∙ rw (cut_line (word ␣ fields) rest (plain_more word fields is plain), cut-field word fields is, (same_text_decides word word).1 refl) refl
