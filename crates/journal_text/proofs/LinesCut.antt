-- Bytes that begin with whole lines begin with no others.
use Rattle.journal_text.proofs.Common.{◌≡◌, ℕ, ◌≤◌, inl, inr, Bool, true, false, true≢false, List, [], ◌∷◌, ◌++◌, length, All, refl, ap, sym, ◌∙◌, arith, list_all, first_so, second_so, append_assoc, append-nil, All-head, All-tail, cases_lt, same_Some, Form, Line, is_text_byte, line_text, lines_text, IsLine, candidate_of}
use Rattle.finite_maps.proofs.Lists.{same_head, same_tail}
use Rattle.journal_text.proofs.LinesBack.{line_back}

-- two texts, each up to the first byte that fails a test
pub first_cut : (test : ℕ → Bool) → test 10 ≡ false → (xs us ys vs : List ℕ) → list_all test xs ≡ true → list_all test us ≡ true → xs ++ 10 ∷ ys ≡ us ++ 10 ∷ vs → (xs ≡ us) × (ys ≡ vs)
first_cut test fails [] [] ys vs a b e = (refl, same_tail 10 10 ys vs e)
first_cut test fails [] (u ∷ us) ys vs a b e = absurd (true≢false (sym (first_so (test u) (list_all test us) b) ∙ ap test (sym (same_head 10 u ys (us ++ 10 ∷ vs) e)) ∙ fails))
first_cut test fails (x ∷ xs) [] ys vs a b e = absurd (true≢false (sym (first_so (test x) (list_all test xs) a) ∙ ap test (same_head x 10 (xs ++ 10 ∷ ys) vs e) ∙ fails))
first_cut test fails (x ∷ xs) (u ∷ us) ys vs a b e =
    let rest = first_cut test fails xs us ys vs (second_so (test x) (list_all test xs) a) (second_so (test u) (list_all test us) b) (same_tail x u (xs ++ 10 ∷ ys) (us ++ 10 ∷ vs) e) in
    let head : x ≡ u = same_head x u (xs ++ 10 ∷ ys) (us ++ 10 ∷ vs) e in
    ((λ i. head i ∷ rest.0 i), rest.1)

-- two lines that begin the same bytes, each with its LF
pub one_first : (form : Form) (l m : Line) (xs ys : List ℕ) → IsLine form l → IsLine form m → line_text form l ++ 10 ∷ xs ≡ line_text form m ++ 10 ∷ ys → (l ≡ m) × (xs ≡ ys)
one_first form l m xs ys is also same =
    let parts = first_cut is_text_byte refl (line_text form l) (line_text form m) xs ys (line_back form l is).plain (line_back form m also).plain same in
    (same_Some l m (sym (line_back form l is).is ∙ ap (candidate_of form) parts.0 ∙ (line_back form m also).is), parts.1)

pub lines_cons : (form : Form) (l : Line) (ls : List Line) (rest : List ℕ) → lines_text form (l ∷ ls) ++ rest ≡ line_text form l ++ 10 ∷ (lines_text form ls ++ rest)
lines_cons form l ls rest = append_assoc (line_text form l ++ 10 ∷ []) (lines_text form ls) rest ∙ append_assoc (line_text form l) (10 ∷ []) (lines_text form ls ++ rest)

-- What stands behind the shorter of two lists of lines that begin the same bytes.
pub record Cut (form : Form) (ls ms : List Line) (xs ys : List ℕ) : Type 0 where
  pub more : List Line
  pub longer : ms ≡ ls ++ more
  pub rest : xs ≡ lines_text form more ++ ys

pub lines_cut : (form : Form) (ls ms : List Line) (xs ys : List ℕ) → All (IsLine form) ls → All (IsLine form) ms → lines_text form ls ++ xs ≡ lines_text form ms ++ ys → length ls ≤ length ms → Cut form ls ms xs ys
lines_cut form [] ms xs ys are also same short = record { more = ms; longer = refl; rest = same }
lines_cut form (l ∷ ls) [] xs ys are also same short = absurd (omega (arith, short))
lines_cut form (l ∷ ls) (m ∷ ms) xs ys are also same short =
    let parts = one_first form l m (lines_text form ls ++ xs) (lines_text form ms ++ ys) (All-head (IsLine form) l ls are) (All-head (IsLine form) m ms also) (sym (lines_cons form l ls xs) ∙ same ∙ lines_cons form m ms ys) in
    let cut = lines_cut form ls ms xs ys (All-tail (IsLine form) l ls are) (All-tail (IsLine form) m ms also) parts.1 (omega (arith, short)) in
    record { more = cut.more; longer = (λ i. sym parts.0 i ∷ cut.longer i); rest = cut.rest }

not_empty : (xs ys : List ℕ) → [] ≡ xs ++ 10 ∷ ys → ⊥
not_empty [] ys e = cc
not_empty (x ∷ xs) ys e = cc

-- lines and bytes that are nothing together
pub nothing_more : (form : Form) (ls : List Line) (xs : List ℕ) → [] ≡ lines_text form ls ++ xs → (ls ≡ []) × (xs ≡ [])
nothing_more form [] xs e = (refl, sym e)
nothing_more form (l ∷ ls) xs e = absurd (not_empty (line_text form l) (lines_text form ls ++ xs) (e ∙ lines_cons form l ls xs))

whole : (form : Form) (ls ms : List Line) → All (IsLine form) ls → All (IsLine form) ms → lines_text form ls ≡ lines_text form ms → length ls ≤ length ms → ms ≡ ls
whole form ls ms are also same short =
    let cut = lines_cut form ls ms [] [] are also (append-nil (lines_text form ls) ∙ same ∙ sym (append-nil (lines_text form ms))) short in
    cut.longer ∙ ap (λ more. ls ++ more) (nothing_more form cut.more [] cut.rest).0 ∙ append-nil ls

-- whole lines that have the same text are the same
pub same_lines : (form : Form) (ls ms : List Line) → All (IsLine form) ls → All (IsLine form) ms → lines_text form ls ≡ lines_text form ms → ls ≡ ms
same_lines form ls ms are also same =
    elim (cases_lt (length ls) (length ms)) [
      | inl short ↦ sym (whole form ls ms are also same (omega (arith, short)))
      | inr short ↦ whole form ms ls also are (sym same) short
    ]
