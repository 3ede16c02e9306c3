-- What a directory shows, after each change of its parts.
use Rattle.std.proofs.Common.{◌≡◌, ℕ, ◌+◌, ◌-◌, cond, IsSome, List, [], Option, Some, None, refl, ap, sym, ◌∙◌, subst}
use Rattle.std.specs.FinMap as map
use Rattle.std.specs.Map.{lookup, keys_of}
use Rattle.std.specs.List.{IsDistinct}
use Rattle.std.specs.Prelude.{bytes_eq, string_bytes, option_map}
use Rattle.std.proofs.lemmas.Map.Entries.{place_from_lookup}
use Rattle.std.proofs.lemmas.Option.{slice_get-map}
use Rattle.grain_id.proofs.Keys.{grains}
use Rattle.grain_id.proofs.Order.{grain_eq_decides}
use Rattle.std.specs.declared.string.String.{String}
use Rattle.std.specs.declared.alloc.Global.{Global}
use Rattle.std.specs.Option.{unwrap_or}
use Rattle.slab.specs.Slab.{Slab, get, Updates, with_value}
use Rattle.grain_id.specs.Names.{Grain, grain_eq}
use Rattle.activation_directory.specs.inside.Places.{at_place, ArePlaced}
use Rattle.activation_directory.proofs.Places.{get-placed, map-written, placed-none, placed-regrown, slots-regrown, map-inserted, placed-inserted, map-removed, placed-removed}
use Rattle.finite_maps.proofs.Options.{some_from_IsSome}
use Rattle.activation_directory.specs.declared.activation.Activation.{Activation}
use Rattle.activation_directory.specs.Register.{StandsIn}
use Rattle.activation_directory.specs.inside.Counts.{Numbers, kept, count_in, NumbersTo}
use Rattle.activation_directory.specs.inside.Kept.{shown, IsDirectory}
use Rattle.activation_directory.specs.inside.Lending.{with_activation}
use Rattle.activation_directory.proofs.Sizes.{count_in-empty, counted-inserted, counted-removed}

-- a look-up of the place, and then of what stands there
pub get-shown : (s : Slab Activation) (es : List (Grain × ℕ)) → ArePlaced grain_eq es s → (q : Grain) → map.get (shown es s).activations q ≡ at_place s (lookup (grain_eq q) es)
get-shown s es ok q = get-placed grains s es ok.unique q

placed_at : (s : Slab Activation) (o : Option ℕ) → IsSome (at_place s o) → (place : ℕ) × (o ≡ Some place)
placed_at s None h = absurd (cc (h))
placed_at s (Some place) h = (place, refl)

-- each grain that has an activation stands at one of the places
pub stands : (s : Slab Activation) (es : List (Grain × ℕ)) → ArePlaced grain_eq es s → (id : Grain) → IsSome (map.get (shown es s).activations id) → StandsIn (shown es s).order id
stands s es ok id there =
    let found = placed_at s (lookup (grain_eq id) es) (subst IsSome (get-shown s es ok id) there) in
    let place = place_from_lookup (grain_eq id) es found.0 found.1 in
    (place.0, slice_get-map (λ (e : Grain × ℕ). e.0) es place.0 ∙ ap (option_map (λ (e : Grain × ℕ). e.0)) place.2 ∙ ap (λ k. Some k) (sym ((grain_eq_decides id place.1).0 place.3)))

pub shown-written : (s : Slab Activation) (es : List (Grain × ℕ)) → ArePlaced grain_eq es s → (id : Grain) (place : ℕ) → lookup (grain_eq id) es ≡ Some place → (w : Activation) → shown es (with_value s place w) ≡ with_activation (shown es s) id w
shown-written s es ok id place at w = λ i. record { activations = map-written grains es s ok id place at w i; order = keys_of es }

-- nothing is there at first
pub opening : (es : List (Grain × ℕ)) (s : Slab Activation) (numbers : Numbers) → es ≡ [] → numbers.entries ≡ [] → IsDirectory es s numbers
opening es s numbers e f = record {
  placed_all = placed-none grains es s e;
  counted = λ tenant.
      ap (λ (ns : List (String Global × ℕ)). unwrap_or (lookup (λ k. bytes_eq tenant (string_bytes k)) ns) 0) f
      ∙ sym (count_in-empty Activation tenant)
      ∙ ap (λ fs. count_in (shown fs s).activations tenant) (sym e);
}

-- an activation has a place of the grown slab, and its grain leads there
module _ (es fs : List (Grain × ℕ)) (s r t : Slab Activation) (ok : ArePlaced grain_eq es s) (grown : r ≡ record s { capacity = r.capacity })
    (unique : IsDistinct grain_eq (keys_of fs)) (id : Grain) (place : ℕ) (a : Activation) (l : (q : Grain) → lookup (grain_eq q) fs ≡ cond (grain_eq id q) (Some place) (lookup (grain_eq q) es))
    (vacant : get r place ≡ None) (u : Updates r t place (Some a)) where
  grown_placed : ArePlaced grain_eq es r
  grown_placed = placed-regrown grain_eq s r es grown ok

  pub activations-inserted : (shown fs t).activations ≡ map.insert (shown es s).activations id a
  activations-inserted = map-inserted grains es fs r t grown_placed unique id place a l vacant u ∙ ap (λ (ps : List (Grain × Activation)). map.insert (map.from_entries ps) id a) (slots-regrown s r es grown)

  pub directory-inserted : (old new : Numbers) → ((tenant : List ℕ) → kept old tenant ≡ count_in (shown es s).activations tenant) → map.get (shown es s).activations id ≡ None → NumbersTo old new id.tenant (kept old id.tenant + 1) → IsDirectory fs t new
  directory-inserted old new counted absent n = record {
    placed_all = placed-inserted grains es fs r t grown_placed unique id place a l vacant u;
    counted = λ tenant. counted-inserted old new (shown es s).activations id a counted absent n tenant ∙ ap (λ m. count_in m tenant) (sym activations-inserted);
  }

-- an activation leaves its place
module _ (es fs : List (Grain × ℕ)) (s t : Slab Activation) (ok : ArePlaced grain_eq es s) (unique : IsDistinct grain_eq (keys_of fs)) (id : Grain) (place : ℕ)
    (l : (q : Grain) → lookup (grain_eq q) fs ≡ cond (grain_eq id q) None (lookup (grain_eq q) es)) (at : lookup (grain_eq id) es ≡ Some place) (u : Updates s t place None) where
  pub activations-removed : (shown fs t).activations ≡ map.remove (shown es s).activations id
  activations-removed = map-removed grains es fs s t ok unique id place l at u

  pub directory-removed : (old new : Numbers) → ((tenant : List ℕ) → kept old tenant ≡ count_in (shown es s).activations tenant) → NumbersTo old new id.tenant (kept old id.tenant - 1) → IsDirectory fs t new
  directory-removed old new counted n =
      let there = some_from_IsSome (get s place) (ok.filled id place at) in
      record {
        placed_all = placed-removed grains es fs s t ok unique id place l at u;
        counted = λ tenant.
            counted-removed old new (shown es s).activations id there.0 counted (get-shown s es ok id ∙ ap (at_place s) at ∙ there.1) n tenant
            ∙ ap (λ m. count_in m tenant) (sym activations-removed);
      }
