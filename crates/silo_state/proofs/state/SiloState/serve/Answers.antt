use Rattle.std.proofs.Common.{◌≡◌, ◌<◌, ℕ, List, [], ◌∷◌, ◌++◌, Option, ap, sym, ◌∙◌, subst, rules}
use Rattle.std.specs.Prelude.{IfSome, map as map_list}
use Rattle.std.specs.FinMap as map
use Rattle.std.specs.FinMap.{FinMap}
use Rattle.grain_id.specs.Names.{text_cmp}
use Rattle.grain_logic.specs.Finished.{planned_shown}
use Rattle.grain_logic.specs.Finished as finished
use Rattle.grain_logic.specs.declared.turn.OwnedPlan.{OwnedPlan}
use Rattle.silo_event.specs.declared.reply.Party.TheVariants as party
use Rattle.silo_event.specs.declared.step.Step.TheVariants as step
use Rattle.silo_model.specs.Calls.{last_number}
use Rattle.silo_model.specs.Effect.{change_at}
use Rattle.silo_model.specs.Machine.{Account, Entry, Entries}
use Rattle.silo_model.specs.Turns.{sent_by}
use Rattle.silo_state.specs.AtOnce.{Serves}
use Rattle.silo_state.specs.inside.Sends.{with_more}
use Rattle.silo_state.specs.inside.Activations.{Activations}
use Rattle.tenant_accounts.specs.inside.Numbers.{Admits}
use Rattle.silo_state.specs.inside.AtOnce.{PlansIdle, renewed}
use Rattle.tenant_accounts.specs.inside.Deliveries.{changed_account}
use Rattle.silo_state.specs.inside.Held.{Held, held_of}
use Rattle.silo_state.proofs.AtOnce.{counted, counts_on, sent, serves}
use Rattle.silo_state.proofs.Ends.{sent_each}
use Rattle.silo_state.proofs.state.SiloState.serve.Goals as goal

pub count_one-requires : goal.count_one-requires
count_one-requires g c =
    let accounts = c.next_number.new.self in
    let grain = c.args.grain.now in
    let admits = subst (λ (p : FinMap text_cmp Account × List ℕ). Admits p.0 p.1 c.in-Some.number) (λ i. (sym c.next_number.ensures.unchanged i, c.tenant-3.ensures i)) c.in-Some.ensures.number in
    let own : c.args.grain.now.tenant ≡ c.args.caller.now.tenant = search rules in
    let known = ap (map.get accounts) own ∙ admits.known in
    let done = c.in_ok-send_each.ensures.done ∙ sent_each accounts grain grain.tenant c.as_slice.result.now in
    subst (λ found. IfSome found (λ (a : Account). a.count < last_number)) (λ i. map.get (sym done i) (sym c.tenant-4.ensures i))
    (counts_on accounts grain admits.account grain.tenant (map_list finished.sent c.as_slice.result.now) known admits.next.left)

pub returns-clause-served : goal.returns-clause-served
returns-clause-served g c =
    let logic = g.L.GrainLogic.logic in
    let b = c.self.inside in
    let rows = g.S.GrainStorage.rows b.storage in
    let failures = g.S.GrainStorage.failed b.storage in
    let caller = c.args.caller.now in
    let grain = c.args.grain.now in
    let message = c.args.message.now in
    let accounts = c.next_number.new.self in
    let activations = c.plan_idle.new.self in
    let h = held_of accounts activations rows b.replies.items failures in
    let new = held_of c.count_one.new.self c.renew.new.self rows c.push_reserved.new.self.items failures in
    let owned = c.in-Some-planned.plan in
    let own : c.args.grain.now.tenant ≡ c.args.caller.now.tenant = search rules in
    let admits = subst (λ (p : FinMap text_cmp Account × List ℕ). Admits p.0 p.1 c.in-Some.number) (λ i. (sym c.next_number.ensures.unchanged i, c.tenant-3.ensures i)) c.in-Some.ensures.number in
    let plans = subst (λ (p : Option OwnedPlan × Activations). IfSome p.0 (λ plan. PlansIdle logic grain (map.get p.1.entries grain) message plan)) (λ i. (c.in-Some-planned.is i, sym c.plan_idle.ensures.unchanged i)) c.in_ok-planned.ensures.planned in
    let e = plans.entry in
    let plan = planned_shown plans.plans.state owned in
    let plain = c.is_plain.ensures c.if-not-is_plain.false in
    let done : c.send_each.new.self ≡ sent accounts grain admits.account grain.tenant plan.sends =
    c.in_ok-send_each.ensures.done ∙ sent_each accounts grain grain.tenant c.as_slice.result.now ∙ ap (λ ss. change_at accounts grain.tenant (with_more (map.get accounts grain.tenant) (sent_by grain (map_list finished.sent ss)))) c.as_slice.ensures.value in
    let kept = c.count_one.ensures ∙ (λ i. changed_account counted (done i) (c.tenant-4.ensures i) (map.get (done i) (c.tenant-4.ensures i))) in
    let entries =
    c.renew.ensures.entries e plans.found_is
    ∙ (λ i. map.insert activations.entries grain (record e { phase = renewed (plans.plans.at.phase_is i) owned.state; last = activations.times.clock })) in
    let replies =
    c.push_reserved.ensures.items
    ∙ (λ i. c.in_ok-reserve.ensures.items i ++ record { recipient = party.Client (c.in_ok-clone.ensures.cases i) c.args.id; outcome = c.told.ensures i } ∷ []) in
    subst (λ (old : Held). Serves logic old (step.Call caller c.args.id grain message) grain c.in-Some.number new)
    ((λ i. held_of (c.next_number.ensures.unchanged i) (c.plan_idle.ensures.unchanged i) rows b.replies.items failures) ∙ c.self.view_is)
    (serves logic h caller c.args.id grain message c.in-Some.number admits own owned plans plain.silent plain.says
    new c.count_one.new.self kept
    (λ i. record {
      whole = record {
        accounts = c.count_one.new.self;
        clock = (c.renew.ensures.times i).clock;
        age = (c.renew.ensures.times i).age;
        ages = (c.renew.ensures.times i).ages;
        entries = entries i;
        rows = rows;
        replies = replies i;
      };
      failures = failures;
    }))
