use Rattle.std.proofs.Common.{IsTrue, sym, ◌∙◌, subst}
use Rattle.std.specs.Prelude.{IfSome}
use Rattle.tenant_gate.specs.Table.{are_in_range}
use Rattle.tenant_gate.proofs.Faults.{limits_of-in_range}
use Rattle.tenant_gate.proofs.table.TenantTable.limits.Goals as goal

pub returns-clause-in_range : goal.returns-clause-in_range
returns-clause-in_range c =
    subst (λ found. IfSome found (λ limits. IsTrue (are_in_range limits)))
    (sym (c.copied.ensures ∙ c.get.ensures.value ∙ c.self.invariant.limits c.args.tenant.now))
    (limits_of-in_range c.self.inside.list.items c.self.invariant.is_table c.args.tenant.now)
