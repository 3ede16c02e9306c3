-- What is kept is nothing if its lists are empty.
use Rattle.std.proofs.Common.{◌≡◌, cond, List, [], ◌∷◌, length, map, Some, refl, ap, sym, ◌∙◌}
use Rattle.std.specs.declared.cmp.Ordering.{Ordering}
use Rattle.std.specs.Ordering.{is_eq}
use Rattle.std.specs.Cmp.{IsTotalOrder, tied_itself}
use Rattle.std.specs.FinMap as finite
use Rattle.std.specs.FinMap.{FinMap, IsAntisymmetric, find, from_entries}
use Rattle.std.proofs.lemmas.Option.{none-some}
use Rattle.finite_maps.proofs.Maps.{alike}
use Rattle.grain_id.proofs.Order.{grain_cmp_exact, grain_cmp_total, text_cmp_exact, text_cmp_total}
use Rattle.tenant_accounts.specs.Parts.{kept_in as account_in}
use Rattle.silo_model.specs.Opening.{Kept, nothing_kept}
use Rattle.silo_state.specs.KeptParts.{kept_grain_in, kept_in}
use Rattle.silo_state.specs.declared.parts.KeptParts.{KeptParts}

module _ {K X Y : Type 0} {R : K → K → Ordering} (total : IsTotalOrder R) (exact : IsAntisymmetric R) (f : Y → K × X) where
  none_made : (ys : List Y) → length ys ≡ 0 → from_entries {R = R} (map f ys) ≡ finite.empty
  none_made [] none = alike total exact _ _ (λ q. finite.get-from_entries total [] q ∙ sym (finite.get-empty R q))
  none_made (y ∷ ys) none = absurd cc

  of_none : (ys : List Y) → from_entries {R = R} (map f ys) ≡ finite.empty → length ys ≡ 0
  of_none [] is = refl
  of_none (y ∷ ys) is =
      let e = f y in
      absurd (none-some e.1 (sym (finite.get-empty R e.0) ∙ ap (λ (m : FinMap R X). finite.get m e.0) (sym is) ∙ finite.get-from_entries total (e ∷ map f ys) e.0
      ∙ ap (λ r. cond (is_eq r) (Some e.1) (find R e.0 (map f ys))) (tied_itself total e.0)))

module _ (parts : KeptParts) where
  pub nothing_from : parts.clock ≡ 0 → length parts.accounts.items ≡ 0 → length parts.grains.items ≡ 0 → kept_in parts ≡ nothing_kept
  nothing_from clock accounts grains = λ i. record {
    clock = clock i;
    accounts = none_made text_cmp_total text_cmp_exact account_in parts.accounts.items accounts i;
    grains = none_made grain_cmp_total grain_cmp_exact (λ e. (e.0, kept_grain_in e.1)) parts.grains.items grains i;
  }

  pub no_accounts : kept_in parts ≡ nothing_kept → length parts.accounts.items ≡ 0
  no_accounts is = of_none text_cmp_total text_cmp_exact account_in parts.accounts.items (ap (λ (k : Kept). k.accounts) is)

  pub no_grains : kept_in parts ≡ nothing_kept → length parts.grains.items ≡ 0
  no_grains is = of_none grain_cmp_total grain_cmp_exact (λ e. (e.0, kept_grain_in e.1)) parts.grains.items (ap (λ (k : Kept). k.grains) is)
