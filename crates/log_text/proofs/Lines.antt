-- The lines of bytes that are put together.
use Rattle.std.proofs.Common.{◌≡◌, ◌==◌, ◌∙◌, Bool, true, false, cond, List, [], ◌∷◌, ◌++◌, append_assoc, refl, ap, ℕ}
use Rattle.log_text.specs.Lines.{HasNoBreak, IsPrefixOf, ended, onto_first, whole_lines}

pub either : (P : Bool → Type 0) (b : Bool) → P true → P false → P b
either P true t f = t
either P false t f = f

pub none_first : {A : Type 0} (xs : List A) → IsPrefixOf [] xs
none_first xs = (xs, refl)

pub one_on : {A : Type 0} (x : A) (xs ys : List A) → IsPrefixOf xs ys → IsPrefixOf (x ∷ xs) (x ∷ ys)
one_on x xs ys p = (p.0, ap (λ l. x ∷ l) p.1)

onto_prefix : (b : ℕ) (xs ys : List (List ℕ)) → IsPrefixOf xs ys → IsPrefixOf (onto_first b xs) (onto_first b ys)
onto_prefix b [] ys p = none_first (onto_first b ys)
onto_prefix b (x ∷ xs) ys p = (p.0, ap (onto_first b) p.1)

-- The lines of the first bytes are the first lines.
pub lines_prefix : (bytes more : List ℕ) → IsPrefixOf (whole_lines bytes) (whole_lines (bytes ++ more))
lines_prefix [] more = none_first (whole_lines more)
lines_prefix (b ∷ bytes) more =
    let rest = lines_prefix bytes more in
    either (λ c. IsPrefixOf (cond c ([] ∷ whole_lines bytes) (onto_first b (whole_lines bytes))) (cond c ([] ∷ whole_lines (bytes ++ more)) (onto_first b (whole_lines (bytes ++ more)))))
    (b == 10) (one_on [] (whole_lines bytes) (whole_lines (bytes ++ more)) rest) (onto_prefix b (whole_lines bytes) (whole_lines (bytes ++ more)) rest)

pub plain_append : (xs ys : List ℕ) → HasNoBreak xs → HasNoBreak ys → HasNoBreak (xs ++ ys)
plain_append [] ys p q = q
plain_append (x ∷ xs) ys p q = (p.0, plain_append xs ys p.1 q)

-- a line without a break, and its LF
pub one_line : (line rest : List ℕ) → HasNoBreak line → whole_lines (line ++ 10 ∷ rest) ≡ line ∷ whole_lines rest
one_line [] rest plain = refl
one_line (b ∷ line) rest plain =
    ap (λ c. cond c ([] ∷ whole_lines (line ++ 10 ∷ rest)) (onto_first b (whole_lines (line ++ 10 ∷ rest)))) plain.0
    ∙ ap (onto_first b) (one_line line rest plain.1)

pub one_ended : (line rest : List ℕ) → HasNoBreak line → whole_lines (ended line ++ rest) ≡ line ∷ whole_lines rest
one_ended line rest plain = ap whole_lines (append_assoc line (10 ∷ []) rest) ∙ one_line line rest plain

-- bytes without a break are no whole line
pub no_line : (bytes : List ℕ) → HasNoBreak bytes → whole_lines bytes ≡ []
no_line [] plain = refl
no_line (b ∷ bytes) plain =
    ap (λ c. cond c ([] ∷ whole_lines bytes) (onto_first b (whole_lines bytes))) plain.0 ∙ ap (onto_first b) (no_line bytes plain.1)
