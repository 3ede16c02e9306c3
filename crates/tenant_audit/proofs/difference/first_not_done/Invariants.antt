use Rattle.silo_model.proofs.Common.{◌≡◌, AllByRecursion, concerns, length, true}
use Rattle.tenant_audit.proofs.Steps.{Taken}
use Rattle.tenant_audit.proofs.difference.first_not_done.Given as goal

-- the steps so far were done
abbrev pub invariant-steps : goal.invariant-steps
invariant-steps g l = record {
  taken : Taken g.L.GrainLogic.logic l.fn.machine l.fn.steps l.machine l.rest;
  same : l.machine.tenant ≡ l.fn.machine.tenant;
  concern : AllByRecursion (λ step. concerns l.fn.machine.tenant step ≡ true) l.rest;
}

abbrev pub decreases-steps : goal.decreases-steps
decreases-steps g l = length l.rest
