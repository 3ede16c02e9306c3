-- What a walk over all activations shows of all grains.
use Rattle.std.proofs.Common.{◌≡◌, ℕ, ◌≤◌, List, length, Option, Some, None, IsSome, refl, ap, sym, ◌∙◌, subst}
use Rattle.std.specs.Prelude.{option_map}
use Rattle.std.specs.FinMap as map
use Rattle.std.specs.FinMap.{FinMap}
use Rattle.grain_id.specs.Names.{Grain, grain_cmp}
use Rattle.grain_id.proofs.Order.{grain_cmp_total, grain_cmp_exact}
use Rattle.finite_maps.proofs.Mapped.{get-mapped}
use Rattle.activation_directory.specs.declared.activation.Activation.{Activation}
use Rattle.activation_directory.specs.Register.{StandsIn}
use Rattle.silo_model.specs.Machine.{Entries}
use Rattle.silo_state.specs.Shown.{entry_of, entries_of}
use Rattle.tenant_accounts.proofs.Walks.{HoldsBelow, of_all}

-- What holds of the grains at all places, and of each grain that has no entry, holds of every grain.
module _ (activations : FinMap grain_cmp Activation) (order : List Grain) (entries : Entries) (shown : entries_of activations ≡ entries) (all : (id : Grain) → IsSome (map.get activations id) → StandsIn order id) (P : Grain → Type 0) (absent : (id : Grain) → map.get entries id ≡ None → P id) where
  pub of_each_grain : (n : ℕ) → length order ≤ n → HoldsBelow P order n → (id : Grain) → P id
  of_each_grain n reached below id = by_activation (map.get activations id) refl
    where
      by_activation : (o : Option Activation) → map.get activations id ≡ o → P id
      by_activation None none = absent id (ap (λ (es : Entries). map.get es id) (sym shown) ∙ get-mapped grain_cmp_total grain_cmp_exact entry_of activations id ∙ ap (option_map entry_of) none)
      by_activation (Some a) some = let place = all id (subst IsSome (sym some) refl) in of_all P order n reached below place.0 id place.1
