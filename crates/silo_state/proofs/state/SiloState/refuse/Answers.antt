use Rattle.std.proofs.Common.{◌∙◌}
use Rattle.std.specs.Prelude.{Err}
use Rattle.silo_event.specs.declared.reply.Party.TheVariants as party
use Rattle.silo_event.specs.declared.step.Step.TheVariants as step
use Rattle.silo_event.specs.Fault.{refusal_fault}
use Rattle.silo_model.proofs.AskSteps.{refuse_is}
use Rattle.silo_state.specs.inside.Requests.{with_told}
use Rattle.silo_state.proofs.Asks.{told_moves}
use Rattle.silo_state.proofs.state.SiloState.refuse.Goals as goal

pub returns : goal.returns
returns g c =
    let h = c.args.self.now in
    told_moves g.L.GrainLogic.logic h c.tell.new.self (step.Refuse c.args.caller.now c.args.id c.args.code) (party.Client c.args.caller.now c.args.id) (Err (refusal_fault c.args.code))
    (refuse_is g.L.GrainLogic.logic h.whole c.args.caller.now c.args.id c.args.code)
    (c.in_ok-tell.ensures.told ∙ (λ i. with_told h (party.Client (c.in_ok-clone.ensures.cases i) c.args.id) (Err (c.fault.ensures i))))
