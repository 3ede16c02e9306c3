use Rattle.std.proofs.Common.{◌++◌, ap, sym, ◌∙◌, subst}
use Rattle.std.specs.Prelude.{Ok, Err}
use Rattle.silo_event.specs.declared.fault.Fault.TheVariants.{StorageFailed}
use Rattle.silo_event.specs.declared.reply.Party.TheVariants as party
use Rattle.silo_event.specs.declared.step.Step.TheVariants as step
use Rattle.silo_model.specs.Calls.{told}
use Rattle.silo_state.specs.inside.Held.{Held, held_of}
use Rattle.silo_state.specs.Moves.{Moves}
use Rattle.silo_state.specs.inside.Requests.{with_told}
use Rattle.silo_state.specs.Verdicts.{gated, Passes}
use Rattle.silo_state.proofs.Asks.{told_moves, poke_stopped, poke_marked, poke_moves}
use Rattle.silo_state.proofs.state.SiloState.poke.Goals as goal

pub returns-in-Err : goal.returns-in-Err
returns-in-Err g c =
    let logic = g.L.GrainLogic.logic in
    let h = c.args.self.now in
    let caller = c.args.caller.now in
    let grain = c.args.grain.now in
    let same = c.in_ok-clone.ensures.cases in
    let stops = subst (Passes (gated logic h.whole c.in_ok-clone.field-0.tenant grain)) c.in-Err.is c.in_ok-why.ensures in
    told_moves logic h c.tell.new.self (step.Poke c.args.failed caller c.args.id grain c.args.state.now) (party.Client caller c.args.id) (Err c.in-Err.why)
    (poke_stopped logic h.whole caller c.args.id grain c.args.state.now c.args.failed c.in-Err.why ((λ i. gated logic h.whole (sym same i).tenant grain) ∙ stops))
    (c.in_ok-tell.ensures.told ∙ ap (λ x. with_told h (party.Client x c.args.id) (Err c.in-Err.why)) same)

pub returns-then-failed : goal.returns-then-failed
returns-then-failed g c =
    let logic = g.L.GrainLogic.logic in
    let h = c.args.self.now in
    let caller = c.args.caller.now in
    let grain = c.args.grain.now in
    let same = c.in_ok-clone.ensures.cases in
    let passes = subst (Passes (gated logic h.whole c.in_ok-clone.field-0.tenant grain)) c.in_default.is c.in_ok-why.ensures in
    told_moves logic h c.tell-then-failed.new.self (step.Poke c.args.failed caller c.args.id grain c.args.state.now) (party.Client caller c.args.id) (Err StorageFailed)
    (poke_marked logic h.whole caller c.args.id grain c.args.state.now c.args.failed c.in_default.field-0.now ((λ i. gated logic h.whole (sym same i).tenant grain) ∙ passes) c.if-failed.true)
    (c.in_ok-tell-2.ensures.told ∙ ap (λ x. with_told h (party.Client x c.args.id) (Err StorageFailed)) same)

pub returns : goal.returns
returns g c =
    let logic = g.L.GrainLogic.logic in
    let b = c.self.inside in
    let caller = c.args.caller.now in
    let grain = c.args.grain.now in
    let same = c.in_ok-clone.ensures.cases in
    let passes = subst (Passes (gated logic c.args.self.now.whole c.in_ok-clone.field-0.tenant grain)) c.in_default.is c.in_ok-why.ensures in
    let old = held_of b.accounts b.activations (g.S.GrainStorage.rows b.storage) b.replies.items (g.S.GrainStorage.failed b.storage) in
    subst (λ (h : Held). Moves logic h (step.Poke c.args.failed caller c.args.id grain c.args.state.now) (Ok c.in_ok-answer.answer)
    (record old { whole = record old.whole { rows = g.S.GrainStorage.rows c.overwrite.new.storage; replies = c.push_reserved.new.self.items }; failures = g.S.GrainStorage.failed c.overwrite.new.storage })) c.self.view_is
    (poke_moves logic old caller c.args.id grain c.args.state.now c.args.failed c.in_default.field-0.now ((λ i. gated logic (c.self.view_is i).whole (sym same i).tenant grain) ∙ passes) c.if-failed.false
    c.in_ok-answer.answer c.in_ok-answer.outcome (g.S.GrainStorage.rows c.overwrite.new.storage) (g.S.GrainStorage.failed c.overwrite.new.storage) c.push_reserved.new.self.items c.in_ok-answer.ensures.answers
    (c.push_reserved.ensures.items ∙ (λ i. c.in_ok-reserve.ensures.items i ++ told (party.Client (same i) c.args.id) c.in_ok-answer.outcome)))
