-- Maps from grains, and maps from texts.
use Rattle.std.proofs.Common.{◌≡◌, ℕ, Bool, cond, List, Some, None}
use Rattle.std.specs.FinMap as map
use Rattle.std.specs.FinMap.{FinMap}
use Rattle.grain_id.specs.Names.{Grain, grain_cmp, text_cmp}
use Rattle.grain_id.proofs.Order.{grain_cmp_total, grain_cmp_exact, text_cmp_total, text_cmp_exact}
use Rattle.finite_maps.proofs.Maps as maps

module _ {X : Type 0} where
  pub alike : (m n : FinMap grain_cmp X) → ((q : Grain) → map.get m q ≡ map.get n q) → m ≡ n
  alike = maps.alike grain_cmp_total grain_cmp_exact

  pub insert-again : (m : FinMap grain_cmp X) (k : Grain) (v : X) → map.get m k ≡ Some v → map.insert m k v ≡ m
  insert-again = maps.insert-again grain_cmp_total grain_cmp_exact

  pub remove-absent : (m : FinMap grain_cmp X) (k : Grain) → map.get m k ≡ None → map.remove m k ≡ m
  remove-absent = maps.remove-absent grain_cmp_total grain_cmp_exact

  pub get-part : (m : FinMap grain_cmp X) (p : Grain → Bool) (q : Grain) → map.get (map.retain_keys m p) q ≡ cond (p q) (map.get m q) None
  get-part = maps.get-part grain_cmp_total grain_cmp_exact

  pub text_alike : (m n : FinMap text_cmp X) → ((q : List ℕ) → map.get m q ≡ map.get n q) → m ≡ n
  text_alike = maps.alike text_cmp_total text_cmp_exact

  pub text_insert-again : (m : FinMap text_cmp X) (k : List ℕ) (v : X) → map.get m k ≡ Some v → map.insert m k v ≡ m
  text_insert-again = maps.insert-again text_cmp_total text_cmp_exact
