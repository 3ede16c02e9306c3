-- The order of the keys once one was added that wasn't there.
use Rattle.std.proofs.Common.{◌≡◌, ℕ, Bool, true, false, cond, List, [], ◌∷◌, ◌++◌, Option, Some, None, IsSome, if◌then◌else◌, refl, ap}
use Rattle.std.specs.Map.{lookup, keys_of}
use Rattle.indexmap.specs.IndexMap.{insert_entry}
use Rattle.slab.specs.Slab.{Slab, get}
use Rattle.activation_directory.specs.inside.Places.{at_place}
use Rattle.finite_maps.proofs.Options.{not_none}

added_by : {K V : Type 0} (eq : K → K → Bool) (e : K × V) (es : List (K × V)) (k : K) (v : V) (b : Bool) → cond b (Some e.1) (lookup (eq k) es) ≡ None → (lookup (eq k) es ≡ None → keys_of (insert_entry eq es k v) ≡ keys_of es ++ k ∷ []) → keys_of (if b then (e.0, v) ∷ es else e ∷ insert_entry eq es k v) ≡ keys_of (e ∷ es) ++ k ∷ []
added_by eq e es k v true h rest = absurd (cc h)
added_by eq e es k v false h rest = ap (λ ks. e.0 ∷ ks) (rest h)

pub added : {K V : Type 0} (eq : K → K → Bool) (es : List (K × V)) (k : K) (v : V) → lookup (eq k) es ≡ None → keys_of (insert_entry eq es k v) ≡ keys_of es ++ k ∷ []
added eq [] k v h = refl
added eq (e ∷ es) k v h = added_by eq e es k v (eq k e.0) h (added eq es k v)

pub absent_of : {X : Type 0} (s : Slab X) (o : Option ℕ) → ((place : ℕ) → o ≡ Some place → IsSome (get s place)) → at_place s o ≡ None → o ≡ None
absent_of s None f h = refl
absent_of s (Some p) f h = absurd (not_none (get s p) (f p refl) h)
