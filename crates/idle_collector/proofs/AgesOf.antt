-- Ages that are put in order, what is found in them, and why a list is no table.
use Rattle.std.proofs.Common.{◌≡◌, ℕ, suc, ◌+◌, ◌<◌, ◌≤◌, Bool, true, false, cond, not, List, [], ◌∷◌, ◌++◌, length, get_or, take, drop}
use Rattle.std.proofs.Common.{Option, Some, None, option_map, refl, ap, sym, ◌∙◌, subst, arith, add-one, true≢false, nat_lt, if◌then◌else◌}
use Rattle.std.specs.Prelude.{Err, IfSome, find, nat_le, ◌&&◌}
use Rattle.std.specs.Bool.{Decides}
use Rattle.std.specs.FinMap as map
use Rattle.std.specs.FinMap.{put}
use Rattle.std.specs.FinMap.Entries.{by_order}
use Rattle.std.specs.Cmp.{first_so, second_so}
use Rattle.std.specs.List.{AllByRecursion, AllZip, insert, list_any}
use Rattle.std.specs.List.Sorted.{IsStrictlySortedBy}
use Rattle.std.specs.Option.{option_or}
use Rattle.std.specs.Ordering.{is_gt}
use Rattle.std.specs.declared.cmp.Ordering.{Ordering}
use Rattle.std.specs.declared.cmp.Ordering.TheVariants.{Less, Equal, Greater}
use Rattle.std.proofs.lemmas.Bool.{leb-true}
use Rattle.std.proofs.lemmas.Bool.Decides.{nat_tests}
use Rattle.std.proofs.lemmas.List.{map-append, take_more}
use Rattle.std.proofs.Math.Seq.{drop-cons}
use Rattle.finite_maps.proofs.Ascending.{keys_ascend}
use Rattle.finite_maps.proofs.Entries.{find-lookup, get-lookup}
use Rattle.finite_maps.proofs.Lists.{all_weaker}
use Rattle.finite_maps.proofs.Maps.{entries-none}
use Rattle.finite_maps.proofs.Options.{none_from_cond, none_from_option_map}
use Rattle.finite_maps.proofs.Values.{found_entries}
use Rattle.grain_id.specs.Names.{same_text, text_cmp}
use Rattle.grain_id.specs.Order.{same_text_decides, text_cmp_total, text_cmp_exact}
use Rattle.grain_id.proofs.Keys.{texts}
use Rattle.tenant_gate.specs.Age.{IsAge}
use Rattle.tenant_gate.specs.Table.{first_repeat}
use Rattle.idle_collector.specs.declared.ages.AgeFault.{AgeFault}
use Rattle.idle_collector.specs.declared.ages.AgeFault.TheVariants as faults
use Rattle.idle_collector.specs.Ages.{Ages, kinds_of, most_ages, is_age, first_out_of_range, ages_fault, age_for, AreAscending, IsTable, IsInOrder, AgesAnswers}
use Rattle.idle_collector.specs.inside.AgesInOrder.{place_in, sorted_ages, SortRefused}

abbrev Entry : Type 0
Entry = List ℕ × ℕ

abbrev InRange : Ages → Type 0
InRange ages = AllByRecursion (λ entry. IsAge entry.1) ages

-- ---- an age is put in its place

pub insert_at_place : (kind : List ℕ) (age : ℕ) (ages : Ages) → age_for ages kind ≡ None → insert ages (place_in kind ages) (kind, age) ≡ put text_cmp kind age ages
insert_at_place kind age [] none = refl
insert_at_place kind age (e ∷ ages) none = at (text_cmp kind e.0) refl (insert_at_place kind age ages (none_from_cond (same_text kind e.0) e.1 (age_for ages kind) none).1)
  where
    at : (o : Ordering) → text_cmp kind e.0 ≡ o → insert ages (place_in kind ages) (kind, age) ≡ put text_cmp kind age ages
        → insert (e ∷ ages) (if is_gt o then suc (place_in kind ages) else 0) (kind, age) ≡ by_order o ((kind, age) ∷ e ∷ ages) ((e.0, age) ∷ ages) (e ∷ put text_cmp kind age ages)
    at Less is more = refl
    at Equal is more =
        absurd (true≢false (sym ((same_text_decides kind e.0).1 (text_cmp_exact kind e.0 is)) ∙ (none_from_cond (same_text kind e.0) e.1 (age_for ages kind) none).0))
    at Greater is more = ap (λ (rest : Ages). e ∷ rest) more

-- ---- a list in order

pub age_for-sorted : (list : Ages) (kind : List ℕ) → age_for (sorted_ages list) kind ≡ age_for list kind
age_for-sorted list kind = sym (find-lookup texts (sorted_ages list) kind) ∙ sym (map.get-entries (map.from_entries list) kind) ∙ get-lookup texts list kind

-- one kind more
pub sorted-push : (list : Ages) (kind : List ℕ) (age : ℕ) → age_for (sorted_ages list) kind ≡ None → sorted_ages (list ++ (kind, age) ∷ []) ≡ put text_cmp kind age (sorted_ages list)
sorted-push list kind age none =
    ap map.entries (map.from_entries_push text_cmp_total text_cmp_exact list kind age (find-lookup texts list kind ∙ sym (age_for-sorted list kind) ∙ none))
    ∙ map.entries-insert text_cmp_total (map.from_entries list) kind age

pub sorted_nothing : sorted_ages [] ≡ []
sorted_nothing = entries-none map.empty (map.len-empty text_cmp ℕ)

pub sorted-in_order : (list table : Ages) → table ≡ sorted_ages list → length table ≡ length list → IsInOrder list table
sorted-in_order list table is as_many = record {
  ascending = subst AreAscending (sym is) (keys_ascend text_cmp (map.from_entries list));
  as_many = as_many;
  each = λ kind. ap (λ ages. age_for ages kind) is ∙ age_for-sorted list kind;
}

-- an age that is found is in its range
pub found_in_range : (ages : Ages) (kind : List ℕ) → InRange ages → IfSome (age_for ages kind) IsAge
found_in_range [] kind all = tt
found_in_range (e ∷ ages) kind all = at (same_text kind e.0) (found_in_range ages kind all.1)
  where
    at : (b : Bool) → IfSome (age_for ages kind) IsAge → IfSome (cond b (Some e.1) (age_for ages kind)) IsAge
    at true behind = all.0
    at false behind = behind

pub sorted-in_range : (list : Ages) → InRange list → InRange (sorted_ages list)
sorted-in_range list all =
    all_weaker (λ e. map.get (map.from_entries {R = text_cmp} list) e.0 ≡ Some e.1) (λ e. IsAge e.1) (sorted_ages list)
    (λ e found. subst (λ o. IfSome o IsAge) (sym (get-lookup texts list e.0) ∙ found) (found_in_range list e.0 all))
    (found_entries text_cmp_total (map.from_entries list))

pub none_is_table : IsTable []
unfolding IsStrictlySortedBy
none_is_table = record { ascending = tt; few = omega arith; in_range = tt }

-- ---- repeats

module _ (ages : Ages) (i : ℕ) (d : Entry) (inside : i < length ages) where
  abbrev next : List ℕ
  next = (get_or ages i d).0

  kinds_left : kinds_of (drop i ages) ≡ next ∷ kinds_of (drop (i + 1) ages)
  kinds_left = ap kinds_of (drop-cons ages i d inside) ∙ ap (λ n. next ∷ kinds_of (drop n ages)) (sym (add-one i))

  pub repeat_here : list_any (same_text next) (kinds_of (take i ages)) ≡ true → first_repeat (kinds_of (take i ages)) (kinds_of (drop i ages)) ≡ Some next
  repeat_here e =
      ap (first_repeat (kinds_of (take i ages))) kinds_left
      ∙ ap (λ b. if b then Some next else first_repeat (kinds_of (take i ages) ++ next ∷ []) (kinds_of (drop (i + 1) ages))) e

  pub repeat_later : list_any (same_text next) (kinds_of (take i ages)) ≡ false
      → first_repeat (kinds_of (take i ages)) (kinds_of (drop i ages)) ≡ first_repeat (kinds_of (take (i + 1) ages)) (kinds_of (drop (i + 1) ages))
  repeat_later e =
      ap (first_repeat (kinds_of (take i ages))) kinds_left
      ∙ ap (λ b. if b then Some next else first_repeat (kinds_of (take i ages) ++ next ∷ []) (kinds_of (drop (i + 1) ages))) e
      ∙ ap (λ before. first_repeat before (kinds_of (drop (i + 1) ages)))
      (sym (ap kinds_of (take_more ages i d inside) ∙ map-append (λ entry. entry.0) (take i ages) (get_or ages i d ∷ [])))

-- ---- why a list is no table

module _ (list : Ages) where
  abbrev by_kind : Option AgeFault
  by_kind = option_or (option_map faults.Twice (first_repeat [] (kinds_of list))) (option_map faults.Range (first_out_of_range list))

  by_tests : (many : Bool) → nat_lt most_ages (length list) ≡ many → ages_fault list ≡ (if many then Some faults.TooMany else by_kind)
  unfolding ages_fault
  by_tests many m = λ i. if m i then Some faults.TooMany else by_kind

  pub fault_many : most_ages < length list → ages_fault list ≡ Some faults.TooMany
  fault_many many = by_tests true (grind (arith, nat_tests))

  module _ (few : length list ≤ most_ages) where
    fault_within : ages_fault list ≡ by_kind
    fault_within = by_tests false (grind (arith, nat_tests))

    fault_twice : (kind : List ℕ) → first_repeat [] (kinds_of list) ≡ Some kind → ages_fault list ≡ Some (faults.Twice kind)
    fault_twice kind e = fault_within ∙ ap (λ o. option_or (option_map faults.Twice o) (option_map faults.Range (first_out_of_range list))) e

    pub fault_later : first_repeat [] (kinds_of list) ≡ None → (found : Option (List ℕ)) → found ≡ first_out_of_range list → ages_fault list ≡ option_map faults.Range found
    fault_later e found is =
        fault_within ∙ ap (λ o. option_or (option_map faults.Twice o) (option_map faults.Range (first_out_of_range list))) e ∙ ap (option_map faults.Range) (sym is)

    -- what putting the ages in order refuses, the list refuses
    pub AgesAnswers-sort : (fault : AgeFault) → SortRefused list fault → AgesAnswers list (Err fault)
    AgesAnswers-sort faults.TooMany a = absurd a
    AgesAnswers-sort (faults.Twice kind) a = fault_twice kind a
    AgesAnswers-sort (faults.Range kind) a = absurd a
    AgesAnswers-sort faults.Memory a = tt

-- ---- ages in their range

pub age_tested : (age : ℕ) → Decides (is_age age) (IsAge age)
age_tested age = (
  λ is. (leb-true 1 age (first_so (nat_le 1 age) (nat_le age 86400000) is), leb-true age 86400000 (second_so (nat_le 1 age) (nat_le age 86400000) is)),
  λ is. let low : nat_le 1 age ≡ true = grind (arith, nat_tests, is.0) in
      let high : nat_le age 86400000 ≡ true = grind (arith, nat_tests, is.1) in
      λ i. low i && high i,
)

abbrev misfit : Ages → Option Entry
misfit ages = find (λ entry. not (is_age entry.1)) ages

all_within : (ages : Ages) → misfit ages ≡ None → InRange ages
all_within [] none = tt
all_within (e ∷ ages) none = at (is_age e.1) refl none (all_within ages)
  where
    at : (b : Bool) → is_age e.1 ≡ b → cond (not b) (Some e) (misfit ages) ≡ None → (misfit ages ≡ None → InRange ages) → InRange (e ∷ ages)
    at true is found behind = ((age_tested e.1).0 is, behind found)
    at false is found behind = absurd cc

-- where no age is out of range, all are in it
pub all_in_range : (ages : Ages) → None ≡ first_out_of_range ages → InRange ages
all_in_range ages none = all_within ages (none_from_option_map (λ entry. entry.0) (misfit ages) (sym none))

-- and if all are, none is out of it
pub none_misfits : (ages : Ages) → InRange ages → misfit ages ≡ None
none_misfits [] all = refl
none_misfits (e ∷ ages) all = ap (λ b. cond (not b) (Some e) (misfit ages)) ((age_tested e.1).1 all.0) ∙ none_misfits ages all.1

-- ---- copies

pub clones_same : (ages copies : Ages) → AllZip (λ one copy. (copy.0 ≡ one.0) × (copy.1 ≡ one.1)) ages copies → copies ≡ ages
clones_same [] [] each = refl
clones_same [] (c ∷ copies) each = absurd each
clones_same (e ∷ ages) [] each = absurd each
clones_same (e ∷ ages) (c ∷ copies) each = let rest = clones_same ages copies each.1 in λ i. (each.0.0 i, each.0.1 i) ∷ rest i
