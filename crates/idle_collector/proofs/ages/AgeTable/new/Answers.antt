use Rattle.std.proofs.Common.{Err, Some, ap, sym, ◌∙◌, subst, arith}
use Rattle.std.specs.List.{AllByRecursion}
use Rattle.std.proofs.lemmas.Result.{err_from_is_err_and}
use Rattle.tenant_gate.specs.Age.{IsAge}
use Rattle.idle_collector.specs.declared.ages.AgeFault.TheVariants as faults
use Rattle.idle_collector.specs.Ages.{AgesAnswers, IsInOrder}
use Rattle.idle_collector.proofs.AgesOf.{fault_many, fault_later, AgesAnswers-sort, all_in_range, sorted-in_order, sorted-in_range}
use Rattle.idle_collector.proofs.ages.AgeTable.new.Goals as goal

pub returns-then-entries-gt-MAX_AGES : goal.returns-then-entries-gt-MAX_AGES
returns-then-entries-gt-MAX_AGES c =
    rw (← c.as_slice-entries.ensures.value) (fault_many c.as_slice-entries.result.now c.if-entries-gt-MAX_AGES.true)

pub returns-in_err-table : goal.returns-in_err-table
returns-in_err-table c =
    let p = err_from_is_err_and c.from_residual.result c.from_residual.ensures.1 in
    rw (p.1, p.2) (subst (λ list. AgesAnswers list (Err c.in_err-table.field-0.0)) c.as_slice-entries.ensures.value
    (AgesAnswers-sort c.as_slice-entries.result.now c.if-entries-gt-MAX_AGES.false c.in_err-table.field-0.0 c.in_err-table.ensures))

pub returns-in-Some : goal.returns-in-Some
returns-in-Some c =
    rw (← c.as_slice-entries.ensures.value)
    (fault_later c.as_slice-entries.result.now c.if-entries-gt-MAX_AGES.false c.in_ok-table.ensures.0 (Some c.in-Some.kind.now) c.in-Some.ensures)
    ∙ ap (λ kind. Some (faults.Range kind)) (sym c.in_ok-clone.ensures.cases)

pub invariant_of-result : goal.invariant_of-result
invariant_of-result c =
    let list = c.as_slice-entries.result.now in
    let told = c.in_ok-table.ensures in
    let order = sorted-in_order list c.in_ok-table.table.items told.1 told.2 in
    record {
      ascending = order.ascending;
      few = omega (arith, order.as_many, c.if-entries-gt-MAX_AGES.false);
      in_range = subst (AllByRecursion (λ entry. IsAge entry.1)) (sym told.1) (sorted-in_range list (all_in_range list c.in_default.ensures));
    }

pub returns : goal.returns
returns c =
    let list = c.as_slice-entries.result.now in
    let told = c.in_ok-table.ensures in (
      rw (← c.as_slice-entries.ensures.value) (fault_later list c.if-entries-gt-MAX_AGES.false c.in_ok-table.ensures.0 _ c.in_default.ensures),
      subst (λ list. IsInOrder list c.in_ok-table.table.items) c.as_slice-entries.ensures.value (sorted-in_order list c.in_ok-table.table.items told.1 told.2),
    )
