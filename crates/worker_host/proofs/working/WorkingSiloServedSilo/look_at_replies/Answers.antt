use Rattle.std.proofs.Common.{◌-◌, ℕ, length, drop, sym, ap, subst, ◌∙◌}
use Rattle.silo_model.proofs.Lawful.{lawful_readers}
use Rattle.lane_model.specs.Asking.{ids_told}
use Rattle.lane_workers.specs.Owing.{owing_to}
use Rattle.worker_host.specs.inside.Working.{IsWorking}
use Rattle.worker_host.proofs.AtWork.{working_seen}
use Rattle.worker_host.proofs.working.WorkingSiloServedSilo.look_at_replies.Goals as goal

pub invariant_of-self : goal.invariant_of-self
invariant_of-self g c =
    let a = c.self.inside in
    let logic = g.L.GrainLogic.logic in
    subst (λ (n : ℕ). IsWorking logic a.silo c.tell_new-noted.new.owing n) (sym (ap length c.replies-replies.ensures))
    (working_seen logic (lawful_readers logic g.met.L.GrainLogic.lawful) a.silo a.owing a.seen c.self.invariant c.tell_new-noted.new.owing
    (λ client. c.tell_new-noted.ensures client ∙ (λ i. owing_to a.owing client - length (ids_told client (drop a.seen (c.replies-replies.ensures i))))))
