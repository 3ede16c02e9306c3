-- Why a list is no table, by what was found.
use Rattle.std.proofs.Common.{◌≡◌, ℕ, ◌<◌, ◌≤◌, ◌==◌, nat_lt, Bool, true, false, not, cond, IsTrue, List, [], ◌∷◌, length, Option, Some, None, option_map, arith, refl, ap, sym, ◌∙◌, if◌then◌else◌}
use Rattle.std.specs.Option.{option_or}
use Rattle.std.specs.Prelude.{Err, find, IfSome}
use Rattle.grain_id.specs.Names.{same_text}
use Rattle.std.proofs.lemmas.Bool.Decides.{nat_tests}
use Rattle.finite_maps.proofs.Options.{none_from_option_map, none_from_or}
use Rattle.tenant_gate.specs.declared.limits.Limits.{Limits}
use Rattle.tenant_gate.specs.declared.fault.TableFault.{TableFault}
use Rattle.tenant_gate.specs.declared.fault.TableFault.TheVariants as faults
use Rattle.tenant_gate.specs.Table.{Table, table_fault, first_repeat, first_out_of_range, names_of, most_tenants, are_in_range, limits_of}
use Rattle.tenant_gate.specs.inside.Answers.{TableAnswers}
use Rattle.tenant_gate.specs.inside.Index.{IndexRefused}

module _ (list : Table) where
  abbrev by_name : Option TableFault
  by_name = option_or (option_map faults.Twice (first_repeat [] (names_of list))) (option_map faults.Range (first_out_of_range list))

  abbrev by_length : Bool → Bool → Option TableFault
  by_length empty many = if empty then Some faults.Empty else if many then Some faults.TooMany else by_name

  by_tests : (empty many : Bool) → (length list == 0) ≡ empty → nat_lt most_tenants (length list) ≡ many → table_fault list ≡ by_length empty many
  unfolding table_fault
  by_tests empty many e m = λ i. by_length (e i) (m i)

  pub fault_empty : (length list == 0) ≡ true → table_fault list ≡ Some faults.Empty
  fault_empty none = by_tests true (nat_lt most_tenants (length list)) none refl

  pub fault_many : most_tenants < length list → table_fault list ≡ Some faults.TooMany
  fault_many many = by_tests false true (grind (arith, nat_tests)) (grind (arith, nat_tests))

  module _ (some : (length list == 0) ≡ false) (few : length list ≤ most_tenants) where
    fault_within : table_fault list ≡ by_name
    fault_within = by_tests false false some (grind (arith, nat_tests))

    pub fault_twice : (tenant : List ℕ) → first_repeat [] (names_of list) ≡ Some tenant → table_fault list ≡ Some (faults.Twice tenant)
    fault_twice tenant e = fault_within ∙ ap (λ o. option_or (option_map faults.Twice o) (option_map faults.Range (first_out_of_range list))) e

    pub fault_later : first_repeat [] (names_of list) ≡ None → (found : Option (List ℕ)) → found ≡ first_out_of_range list → table_fault list ≡ option_map faults.Range found
    fault_later e found is = fault_within ∙ ap (λ o. option_or (option_map faults.Twice o) (option_map faults.Range (first_out_of_range list))) e ∙ ap (option_map faults.Range) (sym is)

    -- what making the index refuses, the list refuses
    pub TableAnswers-index : (fault : TableFault) → IndexRefused list fault → TableAnswers list (Err fault)
    TableAnswers-index faults.Empty a = absurd a
    TableAnswers-index faults.TooMany a = absurd a
    TableAnswers-index (faults.Twice tenant) a = fault_twice tenant a
    TableAnswers-index (faults.Range tenant) a = absurd a
    TableAnswers-index faults.Memory a = tt

-- ---- the limits of a table

abbrev misfit : Table → Option (List ℕ × Limits)
misfit table = find (λ entry. not (are_in_range entry.1)) table

abbrev FoundInRange : Option Limits → Type 0
FoundInRange found = IfSome found (λ limits. IsTrue (are_in_range limits))

in_range_step : (e : List ℕ × Limits) (table : Table) (found : Option Limits) (fits here : Bool) → are_in_range e.1 ≡ fits → misfit (e ∷ table) ≡ None
    → (misfit table ≡ None → FoundInRange found) → FoundInRange (cond here (Some e.1) found)
in_range_step e table found false here is none later = absurd (let out : misfit (e ∷ table) ≡ Some e = ap (λ b. cond (not b) (Some e) (misfit table)) is in cc)
in_range_step e table found true true is none later = is
in_range_step e table found true false is none later = later (sym (ap (λ b. cond (not b) (Some e) (misfit table)) is) ∙ none)

in_range_by : (table : Table) → misfit table ≡ None → (tenant : List ℕ) → FoundInRange (limits_of table tenant)
in_range_by [] none tenant = tt
in_range_by (e ∷ table) none tenant = in_range_step e table (limits_of table tenant) (are_in_range e.1) (same_text tenant e.0) refl none (λ rest. in_range_by table rest tenant)

-- the limits that a table shows are in their ranges
pub limits_of-in_range : (table : Table) → table_fault table ≡ None → (tenant : List ℕ) → IfSome (limits_of table tenant) (λ limits. IsTrue (are_in_range limits))
limits_of-in_range table sound tenant = at (length table == 0) refl (nat_lt most_tenants (length table)) refl
  where
    at : (empty : Bool) → (length table == 0) ≡ empty → (many : Bool) → nat_lt most_tenants (length table) ≡ many → IfSome (limits_of table tenant) (λ limits. IsTrue (are_in_range limits))
    at true e many m = absurd (let is = by_tests table true many e m in cc)
    at false e true m = absurd (let is = by_tests table false true e m in cc)
    at false e false m =
        in_range_by table (none_from_option_map (λ entry. entry.0) (find (λ entry. not (are_in_range entry.1)) table)
        (none_from_option_map faults.Range (first_out_of_range table) (none_from_or (option_map faults.Twice (first_repeat [] (names_of table))) (option_map faults.Range (first_out_of_range table)) (sym (by_tests table false false e m) ∙ sound)).1)) tenant
