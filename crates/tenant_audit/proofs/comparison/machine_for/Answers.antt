use Rattle.std.proofs.Common.{◌≡◌, IsTrue, sym, ◌∙◌, subst}
use Rattle.std.specs.Prelude.{IfSome}
use Rattle.std.proofs.lemmas.Result.{IfOk-weaker}
use Rattle.tenant_gate.specs.Table.{are_in_range}
use Rattle.tenant_gate.proofs.Faults.{limits_of-in_range}
use Rattle.tenant_machine.specs.Machines.{start_with}
use Rattle.tenant_audit.proofs.FirstDifference.{starts}
use Rattle.tenant_audit.proofs.Tables.{limits_there}
use Rattle.tenant_audit.proofs.comparison.machine_for.Goals as goal

pub seeded-requires : goal.seeded-requires
seeded-requires g c =
    let j = c.args.journal.now in
    let listed = limits_there c.args.tenant.now c.tenants.result.now j.tenants c.limits_in-limits.result c.limits_in-limits.ensures c.tenants.ensures.tenants in
    subst (λ found. IfSome found (λ limits. IsTrue (are_in_range limits))) (sym listed) (limits_of-in_range j.tenants c.tenants.ensures.is_table c.args.tenant.now)

pub returns : goal.returns
returns g c =
    let j = c.args.journal.now in
    let tenant = c.args.tenant.now in
    let limits = c.limits_in-limits.result in
    let listed = limits_there tenant c.tenants.result.now j.tenants limits c.limits_in-limits.ensures c.tenants.ensures.tenants in
    let named = c.in_ok-clone.ensures.cases in
    let ages = c.in_ok-ages.ensures.cases ∙ c.ages.ensures in
    let started : start_with c.in_ok-clone.field-0 limits c.age-age.result c.in_ok-ages.ages ≡ start_with tenant limits j.age j.ages =
    λ i. start_with (named i) limits (c.age-age.ensures.age i) (ages i) in
    IfOk-weaker c.seeded.result _ _ (λ m h. starts j tenant limits m (h ∙ started) listed) c.seeded.ensures
