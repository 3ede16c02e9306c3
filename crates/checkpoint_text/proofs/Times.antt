-- A list is read element by element.
use Rattle.std.proofs.Common.{◌≡◌, ℕ, suc, List, [], ◌∷◌, ◌++◌, length, Option, Some, None, refl, ap, sym, ◌∙◌, append_assoc}
use Rattle.std.specs.Prelude.{All, flat_map}
use Rattle.std.proofs.lemmas.List.{append-nil}
use Rattle.std.proofs.lemmas.List.Elements.{All-head, All-tail}
use Rattle.journal_text.specs.inside.Candidates.{◌>>=◌}
use Rattle.checkpoint_text.specs.inside.Reading.{times}

-- what was read comes before what is read of the rest
abbrev pub onto : {A : Type 0} → List A → Option (List A × List ℕ) → Option (List A × List ℕ)
onto xs None = None
onto xs (Some more) = Some (xs ++ more.0, more.1)

module _ {A : Type 0} (read : List ℕ → Option (A × List ℕ)) where
  pub times_back : (text : A → List ℕ) (Is : A → Type 0) → ((x : A) (rest : List ℕ) → Is x → read (text x ++ rest) ≡ Some (x, rest)) → (xs : List A) (rest : List ℕ) → All Is xs → times read (length xs) (flat_map text xs ++ rest) ≡ Some (xs, rest)
  times_back text Is back [] rest all = refl
  times_back text Is back (x ∷ xs) rest all =
      ap (times read (suc (length xs))) (append_assoc (text x) (flat_map text xs) rest)
      ∙ rw (back x (flat_map text xs ++ rest) (All-head Is x xs all), times_back text Is back xs rest (All-tail Is x xs all)) refl

  -- what a reader has read so far, and has to read yet, is what is read in all
  abbrev pub Goes : ℕ → List ℕ → List A → ℕ → List ℕ → Type 0
  Goes count bytes xs left rest = onto xs (times read left rest) ≡ times read count bytes

  onto_none : (found : Option (List A × List ℕ)) → onto [] found ≡ found
  onto_none None = refl
  onto_none (Some more) = refl

  pub goes_start : (count left : ℕ) (bytes : List ℕ) → left ≡ count → Goes count bytes [] left bytes
  goes_start count left bytes same = onto_none (times read left bytes) ∙ ap (λ n. times read n bytes) same

  onto_one : (xs : List A) (x : A) (found : Option (List A × List ℕ)) → onto (xs ++ x ∷ []) found ≡ onto xs (onto (x ∷ []) found)
  onto_one xs x None = refl
  onto_one xs x (Some more) = λ i. Some (append_assoc xs (x ∷ []) more.0 i, more.1)

  by_rest : (x : A) (found : Option (List A × List ℕ)) → (found >>= λ more. Some (x ∷ more.0, more.1)) ≡ onto (x ∷ []) found
  by_rest x None = refl
  by_rest x (Some more) = refl

  one_more : (x : A) (behind : List ℕ) (n : ℕ) (rest : List ℕ) → read rest ≡ Some (x, behind) → times read (suc n) rest ≡ onto (x ∷ []) (times read n behind)
  one_more x behind n rest is = rw is (by_rest x (times read n behind))

  pub goes_more : (count left more : ℕ) (bytes rest behind : List ℕ) (xs : List A) (x : A) → left ≡ suc more → read rest ≡ Some (x, behind) → Goes count bytes xs left rest → Goes count bytes (xs ++ x ∷ []) more behind
  goes_more count left more bytes rest behind xs x next is goes =
      onto_one xs x (times read more behind)
      ∙ ap (onto xs) (sym (one_more x behind more rest is) ∙ ap (λ n. times read n rest) (sym next))
      ∙ goes

  none_more : (n : ℕ) (rest : List ℕ) → read rest ≡ None → times read (suc n) rest ≡ None
  none_more n rest is = rw is refl

  pub goes_out : (count left more : ℕ) (bytes rest : List ℕ) (xs : List A) → left ≡ suc more → read rest ≡ None → Goes count bytes xs left rest → times read count bytes ≡ None
  goes_out count left more bytes rest xs next is goes = sym goes ∙ ap (onto xs) (ap (λ n. times read n rest) next ∙ none_more more rest is)

  pub goes_all : (count left : ℕ) (bytes rest : List ℕ) (xs : List A) → left ≡ 0 → Goes count bytes xs left rest → times read count bytes ≡ Some (xs, rest)
  goes_all count left bytes rest xs none goes = sym goes ∙ ap (λ n. onto xs (times read n rest)) none ∙ (λ i. Some (append-nil xs i, rest))
