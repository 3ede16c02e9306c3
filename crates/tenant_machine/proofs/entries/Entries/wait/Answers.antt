use Rattle.silo_model.proofs.Common.{◌∙◌, ◌≡◌, Entries, FinMap, ap, grain_cmp, subst, sym, with_request}
use Rattle.std.specs.Prelude.{OnOk, OnErr}
use Rattle.std.specs.FinMap as map
use Rattle.activation_directory.specs.declared.activation.Activation.{Activation}
use Rattle.silo_state.specs.Shown.{request_of, entries_of}
use Rattle.silo_state.specs.Marks.{AllMarked}
use Rattle.silo_state.proofs.Arrivals.{arrive_shows, arrive_leaves, arrive_marked, enter_shows, enter_marked}
use Rattle.tenant_machine.proofs.entries.Entries.wait.Goals as goal

pub invariant_of-self : goal.invariant_of-self
invariant_of-self g c =
    arrive_marked g.L.GrainLogic.logic c.self.inside.by_grain c.args.grain.now c.args.request c.args.clock c.in-Some.activation.now c.arrive.new.activation (sym c.in-Some.ensures.value)
    c.arrive.new.activation.mailbox.capacity c.arrive.result c.arrive.ensures.arrived c.arrive.ensures.unchanged c.self.invariant c.requires.marked

pub returns-in-Some-clause-waits : goal.returns-in-Some-clause-waits
returns-in-Some-clause-waits g c =
    let m = c.self.inside.by_grain in
    let grain = c.args.grain.now in
    let after = c.arrive.new.activation in
    subst (λ (old : Entries). OnOk c.arrive.result (entries_of (map.insert m grain after) ≡ map.insert old grain (with_request c.args.clock (request_of c.args.request) (map.get old grain)))) c.self.view_is
    (arrive_shows g.L.GrainLogic.logic m grain c.args.request c.args.clock c.in-Some.activation.now after (sym c.in-Some.ensures.value) after.mailbox.capacity c.arrive.result c.arrive.ensures.arrived c.arrive.ensures.unchanged)

pub returns-in-Some-clause-unchanged : goal.returns-in-Some-clause-unchanged
returns-in-Some-clause-unchanged g c =
    let m = c.self.inside.by_grain in
    let grain = c.args.grain.now in
    let after = c.arrive.new.activation in
    subst (λ (old : Entries). OnErr c.arrive.result (entries_of (map.insert m grain after) ≡ old)) c.self.view_is
    (arrive_leaves g.L.GrainLogic.logic m grain c.args.request c.args.clock c.in-Some.activation.now after (sym c.in-Some.ensures.value) after.mailbox.capacity c.arrive.result c.arrive.ensures.arrived c.arrive.ensures.unchanged)

pub invariant_of-self-2 : goal.invariant_of-self-2
invariant_of-self-2 g c =
    let m = c.self.inside.by_grain in
    let grain = c.args.grain.now in
    let a = c.in_ok-activation.activation in
    let entered = c.in_ok-insert.ensures.entered ∙ ap (λ k. map.insert m k a) c.in_ok-named.ensures.cases in
    enter_marked g.L.GrainLogic.logic m grain c.args.request c.args.clock a c.in_ok-activation.ensures a.noted c.insert.new.self entered
    (sym c.in_default.ensures.value) c.self.invariant c.requires.known c.requires.marked

pub returns-clause-waits : goal.returns-clause-waits
returns-clause-waits g c =
    let m = c.self.inside.by_grain in
    let grain = c.args.grain.now in
    let a = c.in_ok-activation.activation in
    let entered = c.in_ok-insert.ensures.entered ∙ ap (λ k. map.insert m k a) c.in_ok-named.ensures.cases in
    subst (λ (old : Entries). entries_of c.insert.new.self ≡ map.insert old grain (with_request c.args.clock (request_of c.args.request) (map.get old grain))) c.self.view_is
    (enter_shows g.L.GrainLogic.logic m grain c.args.request c.args.clock a c.in_ok-activation.ensures a.noted c.insert.new.self entered (sym c.in_default.ensures.value))

pub invariant_of-self-in_err-insert : goal.invariant_of-self-in_err-insert
invariant_of-self-in_err-insert g c = subst (λ (m : FinMap grain_cmp Activation). AllMarked g.L.GrainLogic.logic m) (sym c.in_err-insert.ensures.unchanged) c.self.invariant
