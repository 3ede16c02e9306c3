-- What each step of a reading that succeeded gave.
use Rattle.std.proofs.Common.{◌≡◌, Option, Some, None, refl}
use Rattle.request_codec.specs.Reading.{◌>>=◌}

pub bound : {A B : Type 0} (o : Option A) (f : A → Option B) (y : B) → (o >>= f) ≡ Some y → (x : A) × (o ≡ Some x) × (f x ≡ Some y)
bound (Some x) f y e = (x, refl, e)
bound None f y e = absurd cc
