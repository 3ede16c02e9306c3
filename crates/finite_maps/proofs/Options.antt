-- What may be there: what is made of it, and what is found by a test.
use Rattle.std.proofs.Common.{◌≡◌, Bool, true, false, cond, Option, Some, None, IsSome, is_some, refl}
use Rattle.std.specs.Prelude.{option_map, option_and_then}
use Rattle.std.specs.Option.{option_or}
use Rattle.std.proofs.lemmas.Option.{none-some}

pub some_none : {A : Type 0} (o : Option A) (x : A) → o ≡ None → o ≡ Some x → ⊥
some_none o x e f = absurd cc

pub none_from_is_some : {A : Type 0} (o : Option A) → is_some o ≡ false → o ≡ None
none_from_is_some None e = refl
none_from_is_some (Some x) e = absurd cc

pub not_none : {A : Type 0} (o : Option A) → IsSome o → o ≡ None → ⊥
not_none None h e = absurd (cc (h))
not_none (Some x) h e = absurd (cc (e))

pub some_from_IsSome : {A : Type 0} (o : Option A) → IsSome o → (x : A) × (o ≡ Some x)
some_from_IsSome None h = absurd (cc (h))
some_from_IsSome (Some x) h = (x, refl)

-- ---- what is made of it

module _ {A B : Type 0} where
  pub option_map-cond : (f : A → B) (b : Bool) (o p : Option A) → option_map f (cond b o p) ≡ cond b (option_map f o) (option_map f p)
  option_map-cond f true o p = refl
  option_map-cond f false o p = refl

  pub is_some-option_map : (f : A → B) (o : Option A) → is_some (option_map f o) ≡ is_some o
  is_some-option_map f None = refl
  is_some-option_map f (Some x) = refl

  pub none_from_option_map : (f : A → B) (o : Option A) → option_map f o ≡ None → o ≡ None
  none_from_option_map f None e = refl
  none_from_option_map f (Some x) e = absurd (none-some (f x) cc)

  -- what is made of something was made of what was there
  pub some_from_and_then : (f : A → Option B) (o : Option A) (y : B) → option_and_then f o ≡ Some y → (x : A) × (o ≡ Some x) × (f x ≡ Some y)
  some_from_and_then f None y e = absurd (none-some y e)
  some_from_and_then f (Some x) y e = (x, refl, e)

-- ---- one, or else another

module _ {A : Type 0} where
  pub or_none : (o : Option A) → option_or o None ≡ o
  or_none None = refl
  or_none (Some x) = refl

  pub or_after : (b : Bool) (x : A) (o p : Option A) → cond b (Some x) (option_or o p) ≡ option_or (cond b (Some x) o) p
  or_after true x o p = refl
  or_after false x o p = refl

  pub none_from_or : (o p : Option A) → option_or o p ≡ None → (o ≡ None) × (p ≡ None)
  none_from_or None p e = (refl, e)
  none_from_or (Some x) p e = absurd cc

-- ---- what is found by a test

module _ {A : Type 0} where
  pub none_from_cond : (b : Bool) (x : A) (o : Option A) → cond b (Some x) o ≡ None → (b ≡ false) × (o ≡ None)
  none_from_cond true x o e = absurd cc
  none_from_cond false x o e = (refl, e)

  pub some_if_passes : (b : Bool) (o : Option A) (x : A) → cond b o None ≡ Some x → (b ≡ true) × (o ≡ Some x)
  some_if_passes true o x e = (refl, e)
  some_if_passes false o x e = absurd (none-some x e)

  pub some_if_fails : (b : Bool) (o : Option A) (x : A) → cond b None o ≡ Some x → (b ≡ false) × (o ≡ Some x)
  some_if_fails true o x e = absurd (none-some x e)
  some_if_fails false o x e = (refl, e)

  pub cond-none : (b : Bool) (o p : Option A) → o ≡ None → p ≡ None → cond b o p ≡ None
  cond-none true o p e f = e
  cond-none false o p e f = f
