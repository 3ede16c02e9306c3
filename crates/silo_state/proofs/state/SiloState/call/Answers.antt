use Rattle.std.proofs.Common.{ap, ◌∙◌, subst}
use Rattle.std.specs.Prelude.{Ok, Err}
use Rattle.std.specs.FinMap as map
use Rattle.std.specs.FinMap.{FinMap}
use Rattle.grain_id.specs.Names.{text_cmp}
use Rattle.silo_event.specs.declared.reply.Party.TheVariants as party
use Rattle.silo_event.specs.declared.step.Answer.TheVariants.{Done}
use Rattle.silo_event.specs.declared.step.Step.TheVariants as step
use Rattle.silo_model.specs.Machine.{Account}
use Rattle.silo_state.specs.inside.Held.{Held, held_of}
use Rattle.silo_state.specs.inside.Requests.{with_told, with_accepted}
use Rattle.silo_state.specs.Moves.{Moves}
use Rattle.silo_state.specs.Verdicts.{verdict, Settles}
use Rattle.silo_state.proofs.Calls.{call_told, call_taken}
use Rattle.silo_state.proofs.state.SiloState.call.Goals as goal

pub returns-in_ok-tell-in-Some : goal.returns-in_ok-tell-in-Some
returns-in_ok-tell-in-Some g c =
    let logic = g.L.GrainLogic.logic in
    let b = c.self.inside in
    let shown = λ (accounts : FinMap text_cmp Account). held_of accounts b.activations (g.S.GrainStorage.rows b.storage) b.replies.items (g.S.GrainStorage.failed b.storage) in
    let h = shown c.look_for.new.self in
    let client = c.in_ok-clone.field-0 in
    subst (λ (old : Held). Moves logic old (step.Call c.args.caller.now c.args.id c.args.grain.now c.args.message.now) (Ok Done) c.tell.new.self) (ap shown c.look_for.ensures ∙ c.self.view_is)
    (call_told logic h c.tell.new.self c.args.caller.now c.args.id c.args.grain.now c.args.message.now client c.in_ok-clone.ensures.cases c.in-Some.why
    (subst (Settles (verdict logic h.whole client.tenant c.args.grain.now)) c.in-Some.is c.in_ok-why.ensures.settles) (c.in_ok-tell-in-Some.ensures.told ∙ ap (λ (x : Held). with_told x (party.Client client c.args.id) (Err c.in-Some.why)) c.refusal.ensures.unchanged))

pub returns-in_ok-accept-in-None : goal.returns-in_ok-accept-in-None
returns-in_ok-accept-in-None g c =
    let logic = g.L.GrainLogic.logic in
    let b = c.self.inside in
    let shown = λ (accounts : FinMap text_cmp Account). held_of accounts b.activations (g.S.GrainStorage.rows b.storage) b.replies.items (g.S.GrainStorage.failed b.storage) in
    let h = shown c.look_for.new.self in
    let client = c.in_ok-clone.field-0 in
    subst (λ (old : Held). Moves logic old (step.Call c.args.caller.now c.args.id c.args.grain.now c.args.message.now) (Ok Done) c.accept.new.self) (ap shown c.look_for.ensures ∙ c.self.view_is)
    (call_taken logic h c.accept.new.self c.args.caller.now c.args.id c.args.grain.now c.args.message.now client c.in_ok-clone.ensures.cases
    c.in_ok-clone-in-None.field-0 c.in_ok-clone-in-None.ensures.cases
    (subst (Settles (verdict logic h.whole client.tenant c.args.grain.now)) c.in-None.is c.in_ok-why.ensures.settles) (c.in_ok-accept-in-None.ensures.accepted ∙ ap (λ (x : Held). with_accepted x (party.Client client c.args.id) c.args.grain.now c.in_ok-clone-in-None.field-0 (map.get x.whole.accounts client.tenant)) c.refusal.ensures.unchanged))
