-- Bytes that were taken, and the lines that they are.
use Rattle.std.proofs.Common.{◌≡◌, ◌≢◌, ℕ, zero, suc, ◌<◌, inl, List, [], ◌∷◌, ◌++◌, length, cond, Option, Some, None, refl, sym, ap, ◌∙◌, subst, arith, append_assoc, append-nil, ne_eqb}
use Rattle.std.specs.Io.KnownBytes.{Consumes, Keeps, IsAtEnd, prepend_known}
use Rattle.std.proofs.KnownBytes.{Consumes-trans, Consumes-kept}
use Rattle.line_text.specs.Lines.{onto, lines_of, onto_first, whole_lines}
use Rattle.line_text.specs.Reading.{Reading, IsFresh, left_of, LinesTaken, TakesLine, HasNoBreak}

HasNoBreak-tail : (x : ℕ) (xs : List ℕ) → HasNoBreak (x ∷ xs) → HasNoBreak xs
HasNoBreak-tail x xs h k lt = h (suc k) (omega arith)

head_apart : (x : ℕ) (xs : List ℕ) → HasNoBreak (x ∷ xs) → x ≢ 10
head_apart x xs h = h 0 (omega arith)

pub HasNoBreak-append : (xs ys : List ℕ) → HasNoBreak xs → HasNoBreak ys → HasNoBreak (xs ++ ys)
HasNoBreak-append [] ys h g k lt = g k lt
HasNoBreak-append (x ∷ xs) ys h g zero lt = h 0 (omega arith)
HasNoBreak-append (x ∷ xs) ys h g (suc k) lt = HasNoBreak-append xs ys (HasNoBreak-tail x xs h) g k (omega arith)

pub lines_of-break : (l rest : List ℕ) → HasNoBreak l → lines_of (l ++ 10 ∷ rest) ≡ l ∷ lines_of rest
lines_of-break [] rest h = refl
lines_of-break (x ∷ l) rest h =
    ap (λ b. cond b ([] ∷ lines_of (l ++ 10 ∷ rest)) (onto x (lines_of (l ++ 10 ∷ rest)))) (ne_eqb x 10 (head_apart x l h))
    ∙ ap (onto x) (lines_of-break l rest (HasNoBreak-tail x l h))

lines_of-last : (x : ℕ) (l : List ℕ) → HasNoBreak (x ∷ l) → lines_of (x ∷ l) ≡ (x ∷ l) ∷ []
lines_of-last x [] h = ap (λ b. cond b ([] ∷ []) (onto x [])) (ne_eqb x 10 (head_apart x [] h))
lines_of-last x (y ∷ l) h =
    ap (λ b. cond b ([] ∷ lines_of (y ∷ l)) (onto x (lines_of (y ∷ l)))) (ne_eqb x 10 (head_apart x (y ∷ l) h))
    ∙ ap (onto x) (lines_of-last y l (HasNoBreak-tail x (y ∷ l) h))

-- ---- those that end with LF

pub whole_lines-break : (l rest : List ℕ) → HasNoBreak l → whole_lines (l ++ 10 ∷ rest) ≡ l ∷ whole_lines rest
whole_lines-break [] rest h = refl
whole_lines-break (x ∷ l) rest h =
    ap (λ b. cond b ([] ∷ whole_lines (l ++ 10 ∷ rest)) (onto_first x (whole_lines (l ++ 10 ∷ rest)))) (ne_eqb x 10 (head_apart x l h))
    ∙ ap (onto_first x) (whole_lines-break l rest (HasNoBreak-tail x l h))

pub whole_lines-none : (l : List ℕ) → HasNoBreak l → whole_lines l ≡ []
whole_lines-none [] h = refl
whole_lines-none (x ∷ l) h =
    ap (λ b. cond b ([] ∷ whole_lines l) (onto_first x (whole_lines l))) (ne_eqb x 10 (head_apart x l h))
    ∙ ap (onto_first x) (whole_lines-none l (HasNoBreak-tail x l h))

-- ---- where they are known

pub LinesTaken-trans : (a b c : Option (List ℕ)) (ls ms : List (List ℕ)) → LinesTaken a b ls → LinesTaken b c ms → LinesTaken a c (ls ++ ms)
LinesTaken-trans None b c ls ms p q = tt
LinesTaken-trans (Some x) None c ls ms p q = absurd p
LinesTaken-trans (Some x) (Some y) None ls ms p q = absurd q
LinesTaken-trans (Some x) (Some y) (Some z) ls ms p q = p ∙ ap (λ l. ls ++ l) q ∙ sym (append_assoc ls ms (lines_of z))

pub LinesTaken-broken : (a b : Option (List ℕ)) (l : List ℕ) → HasNoBreak l → Consumes a b (l ++ 10 ∷ []) → LinesTaken a b (l ∷ [])
LinesTaken-broken None b l h p = tt
LinesTaken-broken (Some x) None l h p = absurd p
LinesTaken-broken (Some x) (Some y) l h p = ap lines_of (p ∙ append_assoc l (10 ∷ []) y) ∙ lines_of-break l y h

pub LinesTaken-last : (a b : Option (List ℕ)) (l : List ℕ) → HasNoBreak l → 0 < length l → Consumes a b l → IsAtEnd b → LinesTaken a b (l ∷ [])
LinesTaken-last None b l h s p e = tt
LinesTaken-last (Some x) None l h s p e = absurd p
LinesTaken-last (Some x) (Some y) [] h s p e = absurd (omega arith)
LinesTaken-last (Some x) (Some y) (w ∷ l) h s p e = ap lines_of (p ∙ ap (λ k. (w ∷ l) ++ k) e ∙ append-nil (w ∷ l)) ∙ lines_of-last w l h ∙ ap (λ k. (w ∷ l) ∷ lines_of k) (sym e)

pub Consumes-none : (a b : Option (List ℕ)) → Consumes a b [] → Keeps a b
Consumes-none None b p = tt
Consumes-none (Some x) None p = absurd p
Consumes-none (Some x) (Some y) p = sym p

pub LinesTaken-kept : (a b c : Option (List ℕ)) (ls : List (List ℕ)) → LinesTaken a b ls → Keeps b c → LinesTaken a c ls
LinesTaken-kept None b c ls p q = tt
LinesTaken-kept (Some x) None c ls p q = absurd p
LinesTaken-kept (Some x) (Some y) None ls p q = absurd q
LinesTaken-kept (Some x) (Some y) (Some z) ls p q = p ∙ ap (λ l. ls ++ lines_of l) (sym q)

-- the front of what was read ahead was taken
pub front_taken : (whole front back : List ℕ) (rest : Option (List ℕ)) → whole ≡ front ++ back → Consumes (prepend_known whole rest) (prepend_known back rest) front
front_taken whole front back None e = tt
front_taken whole front back (Some x) e = ap (λ l. l ++ x) e ∙ append_assoc front back x

pub all_taken : (whole back : List ℕ) (rest : Option (List ℕ)) → back ≡ [] → Consumes (prepend_known whole rest) (prepend_known back rest) whole
all_taken whole back rest e = front_taken whole whole back rest (sym (append-nil whole) ∙ ap (λ l. whole ++ l) (sym e))

pub IsAtEnd-left : (ahead : List ℕ) (rest : Option (List ℕ)) → ahead ≡ [] → IsAtEnd rest → IsAtEnd (prepend_known ahead rest)
IsAtEnd-left ahead None e h = tt
IsAtEnd-left ahead (Some x) e h = ap (λ l. l ++ x) e ∙ h

-- ---- one turn over what was read ahead

pub step_broken : (k0 k1 : Option (List ℕ)) (seen front back whole : List ℕ) (rest : Option (List ℕ)) → Consumes k0 k1 seen → Keeps k1 (prepend_known whole rest) → HasNoBreak seen → HasNoBreak front
    → whole ≡ front ++ 10 ∷ back → TakesLine k0 (prepend_known back rest) (seen ++ front)
step_broken k0 k1 seen front back whole rest p q h g e =
    let split : whole ≡ (front ++ 10 ∷ []) ++ back = e ∙ sym (append_assoc front (10 ∷ []) back) in
    let first = Consumes-kept k0 k1 (prepend_known whole rest) seen p q in
    let both = Consumes-trans k0 (prepend_known whole rest) (prepend_known back rest) seen (front ++ 10 ∷ []) first (front_taken whole (front ++ 10 ∷ []) back rest split) in
    record { one = HasNoBreak-append seen front h g; taken = inl (subst (Consumes k0 (prepend_known back rest)) (sym (append_assoc seen front (10 ∷ []))) both) }

pub step_whole : (k0 k1 : Option (List ℕ)) (seen back whole : List ℕ) (rest : Option (List ℕ)) → Consumes k0 k1 seen → Keeps k1 (prepend_known whole rest) → back ≡ [] → Consumes k0 (prepend_known back rest) (seen ++ whole)
step_whole k0 k1 seen back whole rest p q e =
    Consumes-trans k0 (prepend_known whole rest) (prepend_known back rest) seen whole (Consumes-kept k0 k1 (prepend_known whole rest) seen p q) (all_taken whole back rest e)

-- ---- nothing is taken yet

pub LinesTaken-self : (a : Option (List ℕ)) → LinesTaken a a []
LinesTaken-self None = tt
LinesTaken-self (Some bytes) = refl

pub prepend-nil : (a : Option (List ℕ)) → prepend_known [] a ≡ a
prepend-nil None = refl
prepend-nil (Some bytes) = refl

-- a line and its LF stand whole in what was read ahead
pub whole_taken : (front back whole : List ℕ) (rest : Option (List ℕ)) → HasNoBreak front → whole ≡ front ++ 10 ∷ back → TakesLine (prepend_known whole rest) (prepend_known back rest) front
whole_taken front back whole rest h e = record { one = h; taken = inl (front_taken whole (front ++ 10 ∷ []) back rest (e ∙ sym (append_assoc front (10 ∷ []) back))) }

-- ---- what is read ahead

pub length_some : {A : Type 0} (items : List A) → items ≢ [] → 0 < length items
length_some [] some = absurd (some refl)
length_some (x ∷ items) some = omega arith

-- nothing is read ahead
pub left_of-fresh : (reading : Reading) (rest : Option (List ℕ)) → IsFresh reading → left_of reading rest ≡ rest
left_of-fresh reading rest fresh = ap (λ (ahead : List ℕ). prepend_known ahead rest) fresh ∙ prepend-nil rest
