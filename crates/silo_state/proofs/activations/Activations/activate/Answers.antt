use Rattle.std.proofs.Common.{None, refl, ap, sym, subst}
use Rattle.std.specs.Prelude.{option_and_then}
use Rattle.silo_event.specs.declared.step.Answer.TheVariants.{NotNow}
use Rattle.silo_model.specs.Turns.{activated}
use Rattle.silo_state.specs.inside.Activations.{Activations}
use Rattle.silo_state.specs.Shown.{entries_of}
use Rattle.silo_state.specs.Entries.{Activates}
use Rattle.silo_state.proofs.Idle.{activate_noted, start_noted}
use Rattle.silo_state.proofs.Shows.{get-entries, start_shows, start_marked}
use Rattle.std.specs.FinMap as map
use Rattle.idle_collector.specs.Ages.{kind_age}
use Rattle.silo_state.proofs.activations.Activations.activate.Goals as goal

pub returns-in_default-clause-activates : goal.returns-in_default-clause-activates
returns-in_default-clause-activates g c =
    let m = c.self.inside.directory.activations in
    let grain = c.args.grain.now in
    subst (λ (k : Activations). Activates k.entries grain NotNow (entries_of m)) c.self.view_is
    (ap (option_and_then (λ e. activated e e.phase)) (get-entries m grain None (sym c.in_default.ensures.value)), refl)

pub returns-clause-activates : goal.returns-clause-activates
returns-clause-activates g c =
    let m = c.self.inside.directory.activations in
    let grain = c.args.grain.now in
    let after = c.start.new.activation in
    subst (λ (k : Activations). Activates k.entries grain c.start.result (entries_of (map.insert m grain after))) c.self.view_is
    (start_shows g.L.GrainLogic.logic m grain c.in-Some.activation.now after (sym c.in-Some.ensures.value) c.start.result c.start.ensures)

pub invariant_of-self-2 : goal.invariant_of-self-2
invariant_of-self-2 g c =
    let inside = c.self.inside in
    let m = inside.directory.activations in
    let grain = c.args.grain.now in
    let a = c.in-Some.activation.now in
    let after = c.start.new.activation in
    let found = sym c.in-Some.ensures.value in (
      start_marked g.L.GrainLogic.logic m grain a after found c.self.invariant.0 c.start.result c.start.ensures,
      activate_noted inside.clock (kind_age inside.ages inside.age) m inside.collector.notes c.self.invariant.1 grain a after found (start_noted a after c.start.result c.start.ensures) c.start.result (start_shows g.L.GrainLogic.logic m grain a after found c.start.result c.start.ensures),
    )
