-- Bytes are cut behind a line by their first LF.
use Rattle.std.proofs.Common.{◌≡◌, ◌≢◌, ℕ, ◌+◌, ◌<◌, Bool, true, not, eqb, zero, suc, List, [], ◌∷◌, ◌++◌, length, take, drop, refl, ap, sym, subst, ◌∙◌, arith}
use Rattle.std.specs.Prelude.{slice_index}
use Rattle.std.specs.Str.{IsAscii, IsUtf8}
use Rattle.journal_text.proofs.Common.{list_all, first_so, second_so, take-append-drop, and_from, Form, Line, is_text_byte, line_text, IsLine}
use Rattle.std.proofs.lemmas.Str.{IsUtf8-from_ascii}
use Rattle.std.proofs.Math.Seq.{drop-cons}
use Rattle.journal_text.specs.inside.Answers.{HasNoBreak}
use Rattle.journal_text.proofs.Cuts.{pass_weaker}
use Rattle.journal_text.proofs.LinesBack.{line_back}
use Rattle.journal_text.proofs.LinesCut.{first_cut}

is_no_break : ℕ → Bool
is_no_break b = not (eqb b 10)

unequal : (b : ℕ) → b ≢ 10 → is_no_break b ≡ true
unfolding is_no_break
unequal b apart = grind (arith, apart)

breaks_nowhere : (xs : List ℕ) → HasNoBreak xs → list_all is_no_break xs ≡ true
breaks_nowhere [] none = refl
breaks_nowhere (x ∷ xs) none = and_from (is_no_break x) (list_all is_no_break xs) (unequal x (none 0 (omega arith))) (breaks_nowhere xs (λ k below. none (suc k) (omega (arith, below))))

plain_byte : (b : ℕ) → is_text_byte b ≡ true → is_no_break b ≡ true
unfolding is_no_break
plain_byte b is = grind (arith, is)

-- a text without LF that is cut where one of visible ASCII and spaces is
pub same_cut : (xs us ys vs : List ℕ) → HasNoBreak xs → list_all is_text_byte us ≡ true → xs ++ 10 ∷ ys ≡ us ++ 10 ∷ vs → xs ≡ us
unfolding is_no_break
same_cut xs us ys vs none plain same = (first_cut is_no_break refl xs us ys vs (breaks_nowhere xs none) (pass_weaker is_text_byte is_no_break plain_byte us plain) same).0

there : (xs ys : List ℕ) → slice_index (xs ++ 10 ∷ ys) (length xs) ≡ 10
there [] ys = refl
there (x ∷ xs) ys = there xs ys

inside : (xs ys : List ℕ) → length xs < length (xs ++ 10 ∷ ys)
inside [] ys = omega arith
inside (x ∷ xs) ys = omega (arith, inside xs ys)

-- bytes without LF begin with no text and an LF
pub no_cut : (bytes text behind : List ℕ) → HasNoBreak bytes → bytes ≡ text ++ 10 ∷ behind → ⊥
no_cut bytes text behind none same = subst HasNoBreak same none (length text) (inside text behind) (there text behind)

-- bytes up to an LF, and behind it
pub parted : (bytes : List ℕ) (at : ℕ) → at < length bytes → slice_index bytes at ≡ 10 → bytes ≡ take at bytes ++ 10 ∷ drop (at + 1) bytes
parted bytes at within here =
    let next : suc at ≡ at + 1 = omega arith in
    sym (take-append-drop at bytes) ∙ ap (λ t. take at bytes ++ t) (drop-cons bytes at 0 within ∙ ap (λ b. b ∷ drop (suc at) bytes) here ∙ ap (λ k. 10 ∷ drop k bytes) next)

small : (b : ℕ) → is_text_byte b ≡ true → b < 128
small b is = grind (arith, is)

ascii : (xs : List ℕ) → list_all is_text_byte xs ≡ true → IsAscii xs
ascii [] all i = omega arith
ascii (x ∷ xs) all zero = small x (first_so (is_text_byte x) (list_all is_text_byte xs) all)
ascii (x ∷ xs) all (suc i) = ascii xs (second_so (is_text_byte x) (list_all is_text_byte xs) all) i

-- bytes up to their first LF that are no UTF-8 are no text of visible ASCII and spaces
pub no_text_cut : (bytes : List ℕ) (at : ℕ) → at < length bytes → HasNoBreak (take at bytes) → slice_index bytes at ≡ 10 → ¬ (IsUtf8 (take at bytes)) → (text behind : List ℕ) → list_all is_text_byte text ≡ true → bytes ≡ text ++ 10 ∷ behind → ⊥
no_text_cut bytes at within none here no_utf8 text behind plain same =
    let same_text : take at bytes ≡ text = same_cut (take at bytes) text (drop (at + 1) bytes) behind none plain (sym (parted bytes at within here) ∙ same) in
    no_utf8 (subst IsUtf8 (sym same_text) (IsUtf8-from_ascii text (ascii text plain)))

-- a text that is no line's and is cut from bytes
pub no_line_cut : (form : Form) (bytes text behind : List ℕ) → HasNoBreak text → bytes ≡ text ++ 10 ∷ behind → ((l : Line) → IsLine form l → text ≡ line_text form l → ⊥) → (l : Line) (other : List ℕ) → IsLine form l → bytes ≡ line_text form l ++ 10 ∷ other → ⊥
no_line_cut form bytes text behind none whole no_line l other is same =
    no_line l is (same_cut text (line_text form l) behind other none (line_back form l is).plain (sym whole ∙ same))
