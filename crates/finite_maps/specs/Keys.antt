-- What keys of a finite map are.
use Rattle.std.specs.Prelude.{◌≡◌, Bool}
use Rattle.std.specs.Bool.{Decides}
use Rattle.std.specs.Cmp.{IsTotalOrder}
use Rattle.std.specs.declared.cmp.Ordering.{Ordering}
use Rattle.std.specs.FinMap.{IsAntisymmetric}

-- A test that decides when two keys are one, and a total order of the keys that ties nothing but equals.
pub record AreKeys {K : Type 0} (same : K → K → Bool) (R : K → K → Ordering) : Type 0 where
  pub total : IsTotalOrder R
  pub exact : IsAntisymmetric R
  pub decides : (a b : K) → Decides (same a b) (a ≡ b)
