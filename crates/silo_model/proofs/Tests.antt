-- What holds whichever way a test answers, and whether or not something is there.
use Rattle.silo_model.proofs.Common.{◌≡◌, Bool, None, Option, Some, false, refl, true}

-- of the test's answer
pub on_test : (P : Bool → Type 0) (b : Bool) → (b ≡ true → P true) → (b ≡ false → P false) → P b
on_test P true passes fails = passes refl
on_test P false passes fails = fails refl

-- of anything else
pub either_way : {P : Type 0} (b : Bool) → (b ≡ true → P) → (b ≡ false → P) → P
either_way {P} b passes fails = on_test (λ _. P) b passes fails

-- of what may be there
pub on_found : {A : Type 0} (P : Option A → Type 0) (o : Option A) → (o ≡ None → P None) → ((x : A) → o ≡ Some x → P (Some x)) → P o
on_found P None absent found = absent refl
on_found P (Some x) absent found = found x refl
