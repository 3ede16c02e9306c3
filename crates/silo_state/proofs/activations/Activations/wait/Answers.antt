use Rattle.std.proofs.Common.{ap, sym, ◌∙◌}
use Rattle.std.specs.Prelude.{OnOk, OnErr}
use Rattle.idle_collector.specs.Ages.{kind_age}
use Rattle.idle_collector.specs.Notes.{Collection, noted_if}
use Rattle.silo_state.specs.inside.Activations.{Activations}
use Rattle.silo_state.specs.inside.Arrivals.{with_waiting}
use Rattle.silo_state.specs.Shown.{request_of, entries_of}
use Rattle.silo_state.proofs.Arrivals.{arrive_shows, arrive_leaves, arrive_marked, arrive_noted, enter_shows, enter_marked, enter_noted}
use Rattle.silo_state.proofs.activations.Activations.wait.Goals as goal

-- ---- at an activation

pub invariant_of-self : goal.invariant_of-self
invariant_of-self g c =
    let inside = c.self.inside in
    let logic = g.L.GrainLogic.logic in
    let m = inside.directory.activations in
    let grain = c.args.grain.now in
    let a = c.in-Some.activation.now in
    let after = c.arrive.new.activation in
    let found = sym c.in-Some.ensures.value in
    let capacity = after.mailbox.capacity in (
      arrive_marked logic m grain c.args.request inside.clock a after found capacity c.arrive.result c.arrive.ensures.arrived c.arrive.ensures.unchanged c.self.invariant.0 c.requires.marked,
      arrive_noted logic m grain c.args.request inside.clock a after found capacity c.arrive.result c.arrive.ensures.arrived c.arrive.ensures.unchanged (kind_age inside.ages inside.age) inside.collector.notes c.self.invariant.1,
    )

pub returns-in-Some-clause-waits : goal.returns-in-Some-clause-waits
returns-in-Some-clause-waits g c =
    let after = c.arrive.new.activation in
    rw (← c.self.view_is)
    (arrive_shows g.L.GrainLogic.logic c.self.inside.directory.activations c.args.grain.now c.args.request c.self.inside.clock c.in-Some.activation.now after (sym c.in-Some.ensures.value) after.mailbox.capacity c.arrive.result c.arrive.ensures.arrived c.arrive.ensures.unchanged)

pub returns-in-Some-clause-unchanged : goal.returns-in-Some-clause-unchanged
returns-in-Some-clause-unchanged g c =
    let after = c.arrive.new.activation in
    rw (← c.self.view_is)
    (arrive_leaves g.L.GrainLogic.logic c.self.inside.directory.activations c.args.grain.now c.args.request c.self.inside.clock c.in-Some.activation.now after (sym c.in-Some.ensures.value) after.mailbox.capacity c.arrive.result c.arrive.ensures.arrived c.arrive.ensures.unchanged)

-- ---- at none

pub invariant_of-self-2 : goal.invariant_of-self-2
invariant_of-self-2 g c =
    let inside = c.self.inside in
    let logic = g.L.GrainLogic.logic in
    let m = inside.directory.activations in
    let grain = c.args.grain.now in
    let due = c.due_if_used-due.result in
    let new = c.enter.new.directory.activations in
    let absent = sym c.in_default.ensures.value in (
      enter_marked logic m grain c.args.request inside.clock c.in_ok-first.first c.in_ok-first.ensures due new c.in_ok-enter.ensures.entered absent c.self.invariant.0 c.requires.known c.requires.marked,
      enter_noted logic m grain c.args.request inside.clock c.in_ok-first.first c.in_ok-first.ensures due new c.in_ok-enter.ensures.entered absent (kind_age inside.ages inside.age) inside.collector.notes _ c.self.invariant.1 c.due_if_used-due.ensures
          (ap (λ (k : Collection). k.notes) c.note_expected.ensures ∙ ap (λ (k : Collection). noted_if k.notes k.expected due) c.in_ok-expect.ensures.expected),
    )

pub returns-clause-waits : goal.returns-clause-waits
returns-clause-waits g c =
    rw (← c.self.view_is)
    (enter_shows g.L.GrainLogic.logic c.self.inside.directory.activations c.args.grain.now c.args.request c.self.inside.clock c.in_ok-first.first c.in_ok-first.ensures c.due_if_used-due.result c.enter.new.directory.activations c.in_ok-enter.ensures.entered (sym c.in_default.ensures.value))
