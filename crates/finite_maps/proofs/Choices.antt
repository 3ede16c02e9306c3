-- Choices by tests, one inside another.
use Rattle.std.proofs.Common.{◌≡◌, Bool, true, false, cond, refl}

-- by the same test
pub cond-again : {A : Type 0} (b : Bool) (x y z : A) → cond b x (cond b y z) ≡ cond b x z
cond-again true x y z = refl
cond-again false x y z = refl

-- by tests of which one at most passes
pub cond-apart : {A : Type 0} (b c : Bool) (x y z : A) → (b ≡ true → c ≡ true → ⊥) → cond b x (cond c y z) ≡ cond c y (cond b x z)
cond-apart true true x y z h = absurd (h refl refl)
cond-apart true false x y z h = refl
cond-apart false c x y z h = refl

-- between the same
pub cond-same : {A : Type 0} (b : Bool) (x y : A) → (b ≡ true → x ≡ y) → cond b x y ≡ y
cond-same true x y e = e refl
cond-same false x y e = refl
