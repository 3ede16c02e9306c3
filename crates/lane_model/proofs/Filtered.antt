-- What is made of the items of a list of which some are left out.
use Rattle.silo_model.proofs.Common.{◌++◌, ◌∙◌, ◌∷◌, ◌≡◌, Bool, List, [], ap, arith, cond, false, filter, flat_map, length, length-append}
use Rattle.silo_model.proofs.Common.{refl, sym, true}
use Rattle.silo_model.proofs.Tests.{on_test}

-- as much as of all, if nothing is made of those
pub flat_map-filter : {A B : Type 0} (f : A → List B) (p : A → Bool) (xs : List A) → ((x : A) → p x ≡ false → f x ≡ []) → flat_map f (filter p xs) ≡ flat_map f xs
flat_map-filter f p [] none = refl
flat_map-filter f p (x ∷ xs) none =
    let rest = flat_map-filter f p xs none in
    on_test (λ b. flat_map f (cond b (x ∷ filter p xs) (filter p xs)) ≡ f x ++ flat_map f xs) (p x)
    (λ _. ap (λ ys. f x ++ ys) rest) (λ is. rest ∙ ap (λ ys. ys ++ flat_map f xs) (sym (none x is)))

-- one for each that is kept
pub length-filter_each : {A B : Type 0} (f : A → List B) (p : A → Bool) (xs : List A) → ((x : A) → p x ≡ true → length (f x) ≡ 1) → length (flat_map f (filter p xs)) ≡ length (filter p xs)
length-filter_each f p [] one = refl
length-filter_each f p (x ∷ xs) one =
    let kept = filter p xs in
    let rest = length-filter_each f p xs one in
    on_test (λ b. length (flat_map f (cond b (x ∷ kept) kept)) ≡ length (cond b (x ∷ kept) kept)) (p x)
    (λ is. omega (arith, length-append (f x) (flat_map f kept), one x is, rest)) (λ _. rest)
