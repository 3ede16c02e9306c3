use Rattle.std.proofs.Common.{take}
use Rattle.tenant_audit.specs.inside.Owners.{Gains, step_owners}
use Rattle.tenant_audit.proofs.tenants.add_steps.Given as goal

abbrev pub invariant-steps : goal.invariant-steps
invariant-steps l = Gains l.initial.owners.keys (step_owners (take l.step-index l.steps)) l.owners.keys
