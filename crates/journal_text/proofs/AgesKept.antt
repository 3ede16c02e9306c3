-- The kinds that have an age of their own: that they ascend one after another, and each below all behind it.
use Rattle.journal_text.proofs.Common.{◌≡◌, ℕ, ◌≤◌, true, List, [], ◌∷◌, map, length, All, Option, Some, None, refl, ap, first_so, second_so, and_from, All-head, All-tail, IsAge, Form, kind_line, IsLine, kind_after, are_kinds_ascending}
use Rattle.std.specs.declared.cmp.Ordering.TheVariants.{Less}
use Rattle.std.specs.Ordering.{is_lt}
use Rattle.std.specs.List.{AllByRecursion}
use Rattle.std.specs.List.Sorted.{IsStrictlySortedBy}
use Rattle.finite_maps.proofs.Ascending.{less_from_is_lt}
use Rattle.finite_maps.proofs.Lists.{all_weaker}
use Rattle.grain_id.specs.Names.{text_cmp}
use Rattle.grain_id.specs.Order.{text_cmp_total}
use Rattle.idle_collector.specs.Ages.{Ages, kinds_of, AreAscending, IsTable as AreAges}

-- the kind is below each of these
abbrev IsBelow : List ℕ → Ages → Type 0
IsBelow kind ages = AllByRecursion (λ other. text_cmp kind other ≡ Less) (kinds_of ages)

below_all : (kind : List ℕ) (ages : Ages) → are_kinds_ascending (Some kind) ages ≡ true → IsBelow kind ages
below_all kind [] ascending = tt
below_all kind (e ∷ ages) ascending =
    let here = less_from_is_lt (text_cmp kind e.0) (first_so (kind_after (Some kind) e.0) (are_kinds_ascending (Some e.0) ages) ascending) in
    let behind = below_all e.0 ages (second_so (kind_after (Some kind) e.0) (are_kinds_ascending (Some e.0) ages) ascending) in
    (here, all_weaker (λ other. text_cmp e.0 other ≡ Less) (λ other. text_cmp kind other ≡ Less) (kinds_of ages) (λ other below. text_cmp_total.trans kind e.0 other here below) behind)

ascend : (last : Option (List ℕ)) (ages : Ages) → are_kinds_ascending last ages ≡ true → AreAscending ages
unfolding IsStrictlySortedBy
ascend last [] ascending = tt
ascend last (e ∷ ages) ascending =
    let behind = second_so (kind_after last e.0) (are_kinds_ascending (Some e.0) ages) ascending in
    (below_all e.0 ages behind, ascend (Some e.0) ages behind)

ascend_behind : (kind : List ℕ) (ages : Ages) → IsBelow kind ages → AreAscending ages → are_kinds_ascending (Some kind) ages ≡ true
unfolding IsStrictlySortedBy
ascend_behind kind [] below ascending = refl
ascend_behind kind (e ∷ ages) below ascending =
    and_from (kind_after (Some kind) e.0) (are_kinds_ascending (Some e.0) ages) (ap is_lt below.0) (ascend_behind e.0 ages ascending.0 ascending.1)

-- kinds that ascend come one after another
pub one_after_another : (ages : Ages) → AreAscending ages → are_kinds_ascending None ages ≡ true
unfolding IsStrictlySortedBy
one_after_another [] ascending = refl
one_after_another (e ∷ ages) ascending = ascend_behind e.0 ages ascending.0 ascending.1

in_range : (form : Form) (ages : Ages) → All (IsLine form) (map kind_line ages) → AllByRecursion (λ entry. IsAge entry.1) ages
in_range form [] all = tt
in_range form (e ∷ ages) all =
    ((All-head (IsLine form) (kind_line e) (map kind_line ages) all).2, in_range form ages (All-tail (IsLine form) (kind_line e) (map kind_line ages) all))

-- kinds that come one after another, at most 64, with their ages in range, are a table
pub are_ages : (form : Form) (ages : Ages) → length ages ≤ 64 → are_kinds_ascending None ages ≡ true → All (IsLine form) (map kind_line ages) → AreAges ages
are_ages form ages few ascending all = record { ascending = ascend None ages ascending; few = few; in_range = in_range form ages all }
