use Rattle.std.proofs.Common.{◌≡◌, ℕ, List, length, false, Some, None, is_some, take, get_or, refl, ap, sym, ◌∙◌, ◌∷◌, [], ◌++◌, ◌+◌}
use Rattle.std.specs.FinMap.{put}
use Rattle.std.specs.List.{list_any}
use Rattle.std.proofs.lemmas.List.{take_more}
use Rattle.std.proofs.lemmas.Map.Made.{is_some-lookup}
use Rattle.finite_maps.proofs.Options.{none_from_is_some}
use Rattle.grain_id.specs.Names.{same_text, text_cmp}
use Rattle.idle_collector.specs.Ages.{kinds_of, age_for}
use Rattle.idle_collector.specs.inside.AgesInOrder.{sorted_ages}
use Rattle.idle_collector.proofs.AgesOf.{sorted_nothing, age_for-sorted, sorted-push, repeat_here, repeat_later}
use Rattle.idle_collector.proofs.ages.in_order.Goals as goal

pub loop-kind-init : goal.loop-kind-init
loop-kind-init c = record { repeat = refl; sorted = c.in_ok-table.ensures.items ∙ sym sorted_nothing; as_many = ap length c.in_ok-table.ensures.items }

-- whether a kind repeats one of the first
repeats : (list table : List (List ℕ × ℕ)) (i : ℕ) (entry : List ℕ × ℕ) → table ≡ sorted_ages (take i list) → entry ≡ get_or list i entry
    → list_any (same_text (get_or list i entry).0) (kinds_of (take i list)) ≡ is_some (age_for table entry.0)
repeats list table i entry is here =
    ap (λ e. list_any (same_text e.0) (kinds_of (take i list))) (sym here) ∙ sym (is_some-lookup (same_text entry.0) (take i list))
    ∙ ap is_some (sym (age_for-sorted (take i list) entry.0) ∙ ap (λ ages. age_for ages entry.0) (sym is))

pub returns-then-is_some : goal.returns-then-is_some
returns-then-is_some c =
    let list = c.args.list.now in
    let i = c.loop-kind.kind-index in
    let entry = c.loop-kind-item.result in
    let told : c.age_in.result ≡ age_for c.loop-kind.table.items entry.0 = c.age_in.ensures ∙ (λ j. age_for (c.as_slice.ensures.value j) (c.text.ensures.text j)) in
    c.loop-kind.invariant.repeat
    ∙ repeat_here list i entry c.loop-kind-test.true (repeats list c.loop-kind.table.items i entry c.loop-kind.invariant.sorted c.loop-kind-item.is ∙ ap is_some (sym told) ∙ sym c.if-is_some.ensures)
    ∙ ap Some (ap (λ e. e.0) (sym c.loop-kind-item.is) ∙ sym c.in_ok-clone.ensures.cases)

pub put_in-requires : goal.put_in-requires
put_in-requires c =
    let table = c.loop-kind.table.items in
    ap (age_for table) c.in_ok-clone-2.ensures.cases
    ∙ none_from_is_some (age_for table c.loop-kind-item.result.0)
    (ap is_some (sym (c.age_in.ensures ∙ (λ j. age_for (c.as_slice.ensures.value j) (c.text.ensures.text j)))) ∙ sym c.if-is_some.ensures)

pub loop-kind-preserved : goal.loop-kind-preserved
loop-kind-preserved c =
    let list = c.args.list.now in
    let i = c.loop-kind.kind-index in
    let entry = c.loop-kind-item.result in
    let table = c.loop-kind.table.items in
    let sorted = c.loop-kind.invariant.sorted in
    let told : c.age_in.result ≡ age_for table entry.0 = c.age_in.ensures ∙ (λ j. age_for (c.as_slice.ensures.value j) (c.text.ensures.text j)) in
    let absent : is_some (age_for table entry.0) ≡ false = ap is_some (sym told) ∙ sym c.if-is_some.ensures in
    let longer : take i list ++ entry ∷ [] ≡ take (i + 1) list =
    ap (λ e. take i list ++ e ∷ []) c.loop-kind-item.is ∙ sym (take_more list i entry c.loop-kind-test.true) in
    let none : age_for (sorted_ages (take i list)) entry.0 ≡ None = ap (λ ages. age_for ages entry.0) (sym sorted) ∙ none_from_is_some (age_for table entry.0) absent in
    record {
      repeat = c.loop-kind.invariant.repeat ∙ repeat_later list i entry c.loop-kind-test.true (repeats list table i entry sorted c.loop-kind-item.is ∙ absent);
      sorted = c.in_ok-put_in.ensures.put ∙ (λ j. put text_cmp (c.in_ok-clone-2.ensures.cases j) entry.1 (sorted j)) ∙ sym (sorted-push (take i list) entry.0 entry.1 none) ∙ ap sorted_ages longer;
      as_many = c.in_ok-put_in.ensures.len ∙ ap (λ n. n + 1) c.loop-kind.invariant.as_many;
    }
