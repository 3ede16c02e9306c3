-- Entries that are seen by what their values show, as a finite map.
use Rattle.silo_model.proofs.Common.{◌∙◌, ◌∷◌, ◌≡◌, Bool, FinMap, IsAntisymmetric, IsTotalOrder, List, Option, Ordering, Some, [], ap, cond}
use Rattle.silo_model.proofs.Common.{eq_by_cmp, found_passes, list_all, map_list, option_map, refl, subst, sym, true}
use Rattle.std.specs.Prelude.{IfSome, IsTrue}
use Rattle.std.specs.Cmp.{IsEquivalence, eq_by_cmp_equiv}
use Rattle.std.specs.List.{IsDistinct}
use Rattle.std.specs.Map.{keys_of, lookup, values_of}
use Rattle.std.specs.FinMap as finite
use Rattle.std.specs.FinMap.{find, from_entries}
use Rattle.std.proofs.lemmas.List.Sums.{AllPass-from_list_all, list_all-from_AllPass}
use Rattle.std.proofs.lemmas.Map.Views.{All-values_from_lookup, IfSome-lookup_from_All}
use Rattle.finite_maps.proofs.Values.{same_answer, values_pass}
use Rattle.finite_maps.proofs.Options.{option_map-cond}
use Rattle.silo_model.proofs.Tests.{on_found}

module _ {K V W : Type 0} {R : K → K → Ordering} {eq : K → K → Bool} (total : IsTotalOrder R) (exact : IsAntisymmetric R) (tests : eq ≡ eq_by_cmp R) (f : V → W) where
  abbrev pub shown : List (K × V) → List (K × W)
  shown es = map_list (λ e. (e.0, f e.1)) es

  find-shown : (es : List (K × V)) (q : K) → find R q (shown es) ≡ option_map f (lookup (λ k. eq_by_cmp R q k) es)
  find-shown [] q = refl
  find-shown (e ∷ es) q =
      ap (cond (eq_by_cmp R q e.0) (Some (f e.1))) (find-shown es q) ∙ sym (option_map-cond f (eq_by_cmp R q e.0) (Some e.1) (lookup (λ k. eq_by_cmp R q k) es))

  -- the map has at a key what a look-up finds, seen
  pub get-shown : (es : List (K × V)) (q : K) → finite.get (from_entries {R = R} (shown es)) q ≡ option_map f (lookup (eq q) es)
  get-shown es q = finite.get-from_entries total (shown es) q ∙ find-shown es q ∙ ap (λ (t : K → K → Bool). option_map f (lookup (t q) es)) (sym tests)

  -- one key has another value, and each other look-up finds what it found
  pub shown-insert : (es fs : List (K × V)) (k : K) (v : V) → ((q : K) → lookup (eq q) fs ≡ cond (eq k q) (Some v) (lookup (eq q) es))
      → from_entries {R = R} (shown fs) ≡ finite.insert (from_entries (shown es)) k (f v)
  shown-insert es fs k v l = finite.same_map total exact _ _ (λ q.
      get-shown fs q ∙ ap (option_map f) (l q) ∙ option_map-cond f (eq k q) (Some v) (lookup (eq q) es)
      ∙ ap (cond (eq k q) (Some (f v))) (sym (get-shown es q))
      ∙ ap (λ b. cond b (Some (f v)) (finite.get (from_entries {R = R} (shown es)) q)) (ap (λ (t : K → K → Bool). t k q) tests ∙ (eq_by_cmp_equiv total).symm k q)
      ∙ sym (finite.get-insert total (from_entries (shown es)) k (f v) q))

  -- ---- a test that all values pass

  module _ (p : W → Bool) (es : List (K × V)) where
    abbrev pub seen_all : FinMap R W
    seen_all = from_entries (shown es)

    of_found : (o : Option V) (w : W) → IfSome o (λ v. IsTrue (p (f v))) → option_map f o ≡ Some w → p w ≡ true
    of_found (Some v) w passes is = subst (λ (o : Option W). IfSome o (λ x. p x ≡ true)) is passes
    of_found _ w passes is = absurd cc

    -- where the keys differ, all values pass a test exactly if all of the map do
    pub all-shown : IsDistinct eq (keys_of es) → list_all (λ v. p (f v)) (values_of es) ≡ list_all p (finite.values seen_all)
    all-shown distinct = same_answer _ _ on back
      where
        on : list_all (λ v. p (f v)) (values_of es) ≡ true → list_all p (finite.values seen_all) ≡ true
        on all = values_pass total p seen_all (λ q w found.
            let passes = IfSome-lookup_from_All (λ v. IsTrue (p (f v))) (eq q) es (AllPass-from_list_all (λ v. p (f v)) (values_of es) all) in
            of_found (lookup (eq q) es) w passes (sym (get-shown es q) ∙ found))

        there : list_all p (finite.values seen_all) ≡ true → (q : K) → IfSome (lookup (eq q) es) (λ v. IsTrue (p (f v)))
        there all q =
            on_found (λ o. IfSome o (λ v. IsTrue (p (f v)))) (lookup (eq q) es) (λ _. tt)
            (λ v is. found_passes p seen_all q (f v) (get-shown es q ∙ ap (option_map f) is) all)

        back : list_all p (finite.values seen_all) ≡ true → list_all (λ v. p (f v)) (values_of es) ≡ true
        back all = list_all-from_AllPass (λ v. p (f v)) (values_of es) (All-values_from_lookup (subst IsEquivalence (sym tests) (eq_by_cmp_equiv total)) (λ v. IsTrue (p (f v))) es distinct (there all))
