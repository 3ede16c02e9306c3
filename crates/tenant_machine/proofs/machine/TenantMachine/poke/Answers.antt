use Rattle.silo_model.proofs.Common.{◌++◌, ◌∙◌, ◌≡◌, Err, Machine, None, Some, StorageFailed, ap, machine_step, subst, sym, told}
use Rattle.silo_event.specs.declared.reply.Party.TheVariants as party
use Rattle.silo_event.specs.declared.step.Step.TheVariants as step
use Rattle.silo_state.specs.Verdicts.{Settles}
use Rattle.tenant_machine.specs.inside.Requests.{gated, with_told}
use Rattle.tenant_machine.proofs.Asks.{poke_stopped, poke_marked, poke_stored}
use Rattle.tenant_machine.proofs.Parts.{machine_of}
use Rattle.tenant_machine.proofs.machine.TenantMachine.poke.Goals as goal

pub returns-in-Some : goal.returns-in-Some
returns-in-Some g c =
    let logic = g.L.GrainLogic.logic in
    let m = c.args.self.now in
    let grain = c.args.grain.now in
    poke_stopped logic m c.args.caller.now c.args.id grain c.args.state.now c.args.failed c.in-Some.why (subst (Settles (gated logic m grain)) c.in-Some.is c.in_ok-why.ensures)
    ∙ ap Some (sym (c.in_ok-tell.ensures.told ∙ ap (λ x. with_told m (party.Client x c.args.id) (Err c.in-Some.why)) c.in_ok-clone.ensures.cases))

pub returns-then-failed : goal.returns-then-failed
returns-then-failed g c =
    let logic = g.L.GrainLogic.logic in
    let m = c.args.self.now in
    let grain = c.args.grain.now in
    poke_marked logic m c.args.caller.now c.args.id grain c.args.state.now c.args.failed (subst (Settles (gated logic m grain)) c.in_default.is c.in_ok-why.ensures) c.if-failed.true
    ∙ ap Some (sym (c.in_ok-tell-2.ensures.told ∙ ap (λ x. with_told m (party.Client x c.args.id) (Err StorageFailed)) c.in_ok-clone.ensures.cases))

pub returns : goal.returns
returns g c =
    let logic = g.L.GrainLogic.logic in
    let b = c.self.inside in
    let old = machine_of b.tenant b.account b.age b.ages b.clock b.entries b.storage b.replies.items in
    let caller = c.args.caller.now in
    let grain = c.args.grain.now in
    let outcome = c.in_ok-outcome.outcome in
    let passes = subst (λ (m : Machine). Settles (gated logic m grain) None) (sym c.self.view_is) (subst (Settles (gated logic c.args.self.now grain)) c.in_default.is c.in_ok-why.ensures) in
    let said = c.push_reserved.ensures.items ∙ (λ i. c.in_ok-reserve.ensures.items i ++ told (party.Client (c.in_ok-clone.ensures.cases i) c.args.id) outcome) in
    subst (λ (m : Machine). machine_step logic m (step.Poke c.args.failed caller c.args.id grain c.args.state.now) ≡ Some (record old { rows = c.overwrite.new.storage; replies = c.push_reserved.new.self.items })) c.self.view_is
    (poke_stored logic old caller c.args.id grain c.args.state.now c.args.failed passes c.if-failed.false outcome c.overwrite.new.storage c.in_ok-outcome.ensures.answers
    ∙ (λ i. Some (record old { rows = c.overwrite.new.storage; replies = sym said i })))
