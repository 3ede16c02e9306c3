-- Of whom a report says something.
use Rattle.silo_model.proofs.Common.{if◌then◌else◌, ◌&&◌, ◌++◌, ◌==◌, ◌||◌, ◌∙◌, ◌∷◌, ◌≡◌, AllByRecursion, Bool, FinMap, List, None, Option}
use Rattle.silo_model.proofs.Common.{Some, [], ap, cond, eq_by_cmp, false, false_from_ne_true, filter, length, list_any, list_any-append}
use Rattle.silo_model.proofs.Common.{map_list, nat_lt, none-some, none_from_option_map, not, option_map, or_parts, refl, same_text}
use Rattle.silo_model.proofs.Common.{same_text_decides, subst, sym, text_cmp, texts, true, true≢false, ℕ}
use Rattle.std.specs.List.{IsDistinct}
use Rattle.std.specs.List.Sorted.{IsStrictlySortedBy}
use Rattle.std.specs.Option.{option_or}
use Rattle.std.specs.FinMap as map
use Rattle.std.proofs.lemmas.List.Kept.{IsStrictlySortedBy-filter}
use Rattle.std.proofs.lemmas.Map.Keys.{IsDistinct-from_sorted}
use Rattle.std.proofs.Math.Bool.{and-false}
use Rattle.finite_maps.proofs.Ascending.{keys_ascend}
use Rattle.finite_maps.proofs.Keys.{key_itself, key_ties}
use Rattle.finite_maps.proofs.Lists.{IsDistinct-append}
use Rattle.finite_maps.proofs.Sets.{list_any-set_of}
use Rattle.tenant_gate.specs.declared.fault.TableFault.{TableFault}
use Rattle.tenant_gate.specs.declared.fault.TableFault.TheVariants as faults
use Rattle.tenant_gate.specs.Table.{Table, first_out_of_range, first_repeat, most_tenants, names_of, table_fault}
use Rattle.journal_text.specs.Rules.{IsTable}
use Rattle.journal_text.specs.Text.{History}
use Rattle.audit_model.specs.Parts.{ascending, is_listed, others_in, owners_in}
use Rattle.audit_model.specs.Report.{TenantsInOrder}
use Rattle.silo_model.proofs.Tests.{on_test}

-- ---- the tenants of a report

or_else : (a b : Bool) → (a || (b && not a)) ≡ (a || b)
or_else true b = refl
or_else false true = refl
or_else false false = refl

-- a text is one of those that pass, where it passes
listed_filter : (p : List ℕ → Bool) (tenant : List ℕ) (tenants : List (List ℕ)) → is_listed (filter p tenants) tenant ≡ (is_listed tenants tenant && p tenant)
listed_filter p tenant [] = refl
listed_filter p tenant (t ∷ tenants) = by_pass (p t) refl (same_text tenant t) refl (listed_filter p tenant tenants)
  where
    same : same_text tenant t ≡ true → p t ≡ p tenant
    same tied = ap p (sym ((same_text_decides tenant t).0 tied))

    by_pass : (b : Bool) → p t ≡ b → (c : Bool) → same_text tenant t ≡ c → is_listed (filter p tenants) tenant ≡ (is_listed tenants tenant && p tenant)
        → is_listed (cond b (t ∷ filter p tenants) (filter p tenants)) tenant ≡ ((c || is_listed tenants tenant) && p tenant)
    by_pass true passes true tied rest = ap (λ c. c || is_listed (filter p tenants) tenant) tied ∙ sym (sym (same tied) ∙ passes)
    by_pass true passes false tied rest = ap (λ c. c || is_listed (filter p tenants) tenant) tied ∙ rest
    by_pass false fails true tied rest = rest ∙ ap (λ c. is_listed tenants tenant && c) (sym (same tied) ∙ fails) ∙ and-false (is_listed tenants tenant) ∙ sym (sym (same tied) ∙ fails)
    by_pass false fails false tied rest = rest

-- two tests of texts are one
same_test : same_text ≡ eq_by_cmp text_cmp
same_test = λ i s t. sym (key_ties texts s t) i

listed_ascending : (tenant : List ℕ) (tenants : List (List ℕ)) → is_listed (ascending tenants) tenant ≡ is_listed tenants tenant
listed_ascending tenant tenants = list_any-set_of texts tenant tenants

is_other : (journal : History) (tenant : List ℕ) → is_listed (others_in journal) tenant ≡ (is_listed (owners_in journal) tenant && not (is_listed (names_of journal.tenants) tenant))
is_other journal tenant =
    listed_filter (λ t. not (is_listed (names_of journal.tenants) t)) tenant (ascending (owners_in journal))
    ∙ ap (λ b. b && not (is_listed (names_of journal.tenants) tenant)) (listed_ascending tenant (owners_in journal))

others_ascend : (journal : History) → IsStrictlySortedBy text_cmp (others_in journal)
others_ascend journal =
    let m : FinMap text_cmp (Unit {0}) = map.from_entries (map_list (λ t. (t, tt {0})) (owners_in journal)) in
    IsStrictlySortedBy-filter text_cmp (λ t. not (is_listed (names_of journal.tenants) t)) (map.keys m) (keys_ascend text_cmp m)

and_not : (a b : Bool) → a ≡ true → (b && not a) ≡ false
and_not a true is = ap not is
and_not a false is = refl

-- ---- a table has no tenant twice

-- of names that repeat nothing before them: none is one of those before, and no two are the same
no_repeat : (before names : List (List ℕ)) → first_repeat before names ≡ None → AllByRecursion (λ name. list_any (same_text name) before ≡ false) names × IsDistinct same_text names
unfolding IsDistinct
no_repeat before [] = λ none. (tt, tt)
no_repeat before (name ∷ names) =
    on_test
    (λ b. (if b then Some name else first_repeat (before ++ name ∷ []) names) ≡ None
    → AllByRecursion (λ n. list_any (same_text n) before ≡ false) (name ∷ names) × IsDistinct same_text (name ∷ names))
    (list_any (same_text name) before) (λ _ h. absurd (none-some name (sym h)))
    (λ is h.
    let rest = no_repeat (before ++ name ∷ []) names h in
    let apart = apart_all names rest.0 in
    ((is, apart.0), (apart.1, rest.1)))
  where
    apart_all : (others : List (List ℕ)) → AllByRecursion (λ other. list_any (same_text other) (before ++ name ∷ []) ≡ false) others
        → AllByRecursion (λ other. list_any (same_text other) before ≡ false) others × AllByRecursion (λ other. same_text name other ≡ false) others
    apart_all [] all = (tt, tt)
    apart_all (other ∷ others) all =
        let parts = or_parts (list_any (same_text other) before) (same_text other name || false) (sym (list_any-append (same_text other) before (name ∷ [])) ∙ all.0) in
        let rest = apart_all others all.1 in
        ((parts.0, rest.0), (false_from_ne_true (same_text name other) (λ e. true≢false (sym ((same_text_decides other name).1 (sym ((same_text_decides name other).0 e))) ∙ (or_parts _ _ parts.1).0)), rest.1))

no_fault : (a b : Bool) (repeat : Option TableFault) (other : Option TableFault) → (if a then Some faults.Empty else if b then Some faults.TooMany else option_or repeat other) ≡ None → repeat ≡ None
no_fault true b repeat other e = absurd (none-some faults.Empty (sym e))
no_fault false true repeat other e = absurd (none-some faults.TooMany (sym e))
no_fault false false None other e = refl
no_fault false false (Some fault) other e = absurd (none-some fault (sym e))

names_once : (table : Table) → IsTable table → IsDistinct same_text (names_of table)
unfolding table_fault
names_once table sound =
    (no_repeat [] (names_of table) (none_from_option_map faults.Twice _ (no_fault (length table == 0) (nat_lt most_tenants (length table)) (option_map faults.Twice (first_repeat [] (names_of table))) (option_map faults.Range (first_out_of_range table)) sound))).1

-- ---- the law

pub tenants_in_order : TenantsInOrder
tenants_in_order = record {
  reported = λ journal tenant.
      list_any-append (same_text tenant) (names_of journal.tenants) (others_in journal)
      ∙ ap (λ b. is_listed (names_of journal.tenants) tenant || b) (is_other journal tenant)
      ∙ or_else (is_listed (names_of journal.tenants) tenant) (is_listed (owners_in journal) tenant);
  ascending = others_ascend;
  once = λ journal table.
      IsDistinct-append same_text (key_itself texts) (names_of journal.tenants) (others_in journal) (names_once journal.tenants table)
      (subst (λ test. IsDistinct test (others_in journal)) (sym same_test) (IsDistinct-from_sorted text_cmp (others_in journal) (others_ascend journal)))
      (λ t is. is_other journal t ∙ and_not (is_listed (names_of journal.tenants) t) (is_listed (owners_in journal) t) is);
}
