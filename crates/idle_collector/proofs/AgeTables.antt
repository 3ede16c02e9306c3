-- A list of ages that is a table already has no fault, and is the table that is made of it.
use Rattle.std.proofs.Common.{◌≡◌, ℕ, false, List, [], ◌∷◌, ◌++◌, length, Some, None, refl, ap, sym, ◌∙◌, subst, append_assoc, arith}
use Rattle.std.specs.Prelude.{nat_lt, ◌||◌, option_map, Err, if◌then◌else◌}
use Rattle.std.specs.FinMap as map
use Rattle.std.specs.List.{IsDistinct, list_any}
use Rattle.std.specs.Option.{option_or}
use Rattle.std.proofs.lemmas.Bool.Decides.{nat_tests}
use Rattle.std.proofs.lemmas.Map.Keys.{IsDistinct-from_sorted, IsDistinct-head, IsDistinct-tail}
use Rattle.finite_maps.proofs.Ascending.{entries-ascending}
use Rattle.finite_maps.proofs.Entries.{from_entries-alike}
use Rattle.finite_maps.proofs.Keys.{key_ties, key_turned}
use Rattle.finite_maps.proofs.Lists.{all_at}
use Rattle.grain_id.specs.Names.{same_text, text_cmp}
use Rattle.grain_id.specs.Order.{text_cmp_total, text_cmp_exact}
use Rattle.grain_id.proofs.Keys.{texts}
use Rattle.tenant_gate.specs.Table.{first_repeat}
use Rattle.idle_collector.specs.declared.ages.AgeFault.{AgeFault}
use Rattle.idle_collector.specs.declared.ages.AgeFault.TheVariants as faults
use Rattle.idle_collector.specs.Ages.{Ages, kinds_of, first_out_of_range, ages_fault, AreAscending, AgesAnswers, IsInOrder, IsTable}
use Rattle.idle_collector.proofs.AgesOf.{none_misfits}

pub same_table : (list table : Ages) → AreAscending list → IsInOrder list table → table ≡ list
same_table list table ascending order =
    sym (entries-ascending text_cmp_total text_cmp_exact table order.ascending)
    ∙ ap map.entries (from_entries-alike texts list table order.each)
    ∙ entries-ascending text_cmp_total text_cmp_exact list ascending

-- ---- kinds that differ don't repeat

last_apart : (before kinds : List (List ℕ)) (kind : List ℕ) → IsDistinct same_text (before ++ kind ∷ kinds) → list_any (same_text kind) before ≡ false
last_apart [] kinds kind apart = refl
last_apart (other ∷ before) kinds kind apart =
    ap (λ b. b || list_any (same_text kind) before) (key_turned texts kind other ∙ all_at (λ k. same_text other k ≡ false) before kinds kind (IsDistinct-head same_text other _ apart))
    ∙ last_apart before kinds kind (IsDistinct-tail same_text other _ apart)

none_repeats : (before kinds : List (List ℕ)) → IsDistinct same_text (before ++ kinds) → first_repeat before kinds ≡ None
none_repeats before [] apart = refl
none_repeats before (kind ∷ kinds) apart =
    ap (λ b. if b then Some kind else first_repeat (before ++ kind ∷ []) kinds) (last_apart before kinds kind apart)
    ∙ none_repeats (before ++ kind ∷ []) kinds (subst (IsDistinct same_text) (sym (append_assoc before (kind ∷ []) kinds)) apart)

-- ---- a table has no fault

pub no_fault : (ages : Ages) → IsTable ages → ages_fault ages ≡ None
unfolding ages_fault
no_fault ages is =
    let few : nat_lt 64 (length ages) ≡ false = grind (arith, nat_tests, is.few) in
    let repeats : first_repeat [] (kinds_of ages) ≡ None = none_repeats [] (kinds_of ages) (subst (λ same. IsDistinct same (kinds_of ages)) (λ i a b. key_ties texts a b i) (IsDistinct-from_sorted text_cmp (kinds_of ages) is.ascending)) in
    let ranges : first_out_of_range ages ≡ None = ap (option_map (λ entry. entry.0)) (none_misfits ages is.in_range) in
    λ i. if few i then Some faults.TooMany else option_or (option_map faults.Twice (repeats i)) (option_map faults.Range (ranges i))

not_its_fault : (ages : Ages) (fault : AgeFault) → IsTable ages → ages_fault ages ≡ Some fault → ⊥
not_its_fault ages fault is e = absurd (let none = sym (no_fault ages is) ∙ e in cc)

-- if it isn't made a table, memory was refused
pub only_memory : (ages : Ages) (fault : AgeFault) → IsTable ages → AgesAnswers ages (Err fault) → fault ≡ faults.Memory
only_memory ages faults.TooMany is e = absurd (not_its_fault ages faults.TooMany is e)
only_memory ages (faults.Twice kind) is e = absurd (not_its_fault ages (faults.Twice kind) is e)
only_memory ages (faults.Range kind) is e = absurd (not_its_fault ages (faults.Range kind) is e)
only_memory ages faults.Memory is e = refl
