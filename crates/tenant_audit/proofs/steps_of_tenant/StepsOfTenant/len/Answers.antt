use Rattle.std.proofs.Common.{length, ap, sym, ◌∙◌}
use Rattle.tenant_audit.proofs.Merged.{length-merged}
use Rattle.tenant_audit.proofs.steps_of_tenant.StepsOfTenant.len.Goals as goal

pub returns : goal.returns
returns c = sym (length-merged c.self.inside.own.now c.self.inside.nobodys.now) ∙ ap length c.self.view_is
