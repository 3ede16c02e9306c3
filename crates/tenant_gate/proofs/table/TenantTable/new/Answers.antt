use Rattle.std.proofs.Common.{Err, Some, ap, sym, ◌∙◌, refl, subst}
use Rattle.std.proofs.lemmas.Result.{err_from_is_err_and}
use Rattle.tenant_gate.specs.declared.fault.TableFault.TheVariants as faults
use Rattle.tenant_gate.specs.inside.Answers.{TableAnswers}
use Rattle.tenant_gate.proofs.Faults.{fault_empty, fault_many, fault_later, TableAnswers-index}
use Rattle.tenant_gate.proofs.table.TenantTable.new.Goals as goal

pub returns-then-is_empty : goal.returns-then-is_empty
returns-then-is_empty c = rw (← c.as_slice-entries.ensures.value) (fault_empty c.as_slice-entries.result.now (sym c.if-is_empty.ensures))

pub returns-then-entries-gt-MAX_TENANTS : goal.returns-then-entries-gt-MAX_TENANTS
returns-then-entries-gt-MAX_TENANTS c = rw (← c.as_slice-entries.ensures.value) (fault_many c.as_slice-entries.result.now c.if-entries-gt-MAX_TENANTS.true)

pub returns-in_err-index : goal.returns-in_err-index
returns-in_err-index c =
    let p = err_from_is_err_and c.from_residual.result c.from_residual.ensures.1 in
    rw (p.1, p.2) (subst (λ list. TableAnswers list (Err c.in_err-index.field-0.0)) c.as_slice-entries.ensures.value (TableAnswers-index c.as_slice-entries.result.now (sym c.if-is_empty.ensures) c.if-entries-gt-MAX_TENANTS.false c.in_err-index.field-0.0 c.in_err-index.ensures))

pub returns-in-Some : goal.returns-in-Some
returns-in-Some c =
    rw (← c.as_slice-entries.ensures.value) (fault_later c.as_slice-entries.result.now (sym c.if-is_empty.ensures) c.if-entries-gt-MAX_TENANTS.false c.in_ok-index.ensures.0 (Some c.in-Some.tenant.now) c.in-Some.ensures)
    ∙ ap (λ tenant. Some (faults.Range tenant)) (sym c.in_ok-clone.ensures.cases)

pub invariant_of-result : goal.invariant_of-result
invariant_of-result c =
    rw (← c.as_slice-entries.ensures.value) (record {
      is_table = fault_later c.as_slice-entries.result.now (sym c.if-is_empty.ensures) c.if-entries-gt-MAX_TENANTS.false c.in_ok-index.ensures.0 _ c.in_default.ensures;
      limits = c.in_ok-index.ensures.1;
    })

pub returns : goal.returns
returns c = (rw (← c.as_slice-entries.ensures.value) (fault_later c.as_slice-entries.result.now (sym c.if-is_empty.ensures) c.if-entries-gt-MAX_TENANTS.false c.in_ok-index.ensures.0 _ c.in_default.ensures), refl)
