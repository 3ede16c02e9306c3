use Rattle.silo_model.proofs.Common.{Entries, None, activated, ap, option_and_then, refl, subst, sym}
use Rattle.silo_event.specs.declared.step.Answer.TheVariants.{NotNow}
use Rattle.silo_state.specs.Shown.{entries_of}
use Rattle.silo_state.specs.Entries.{Activates}
use Rattle.silo_state.proofs.Shows.{get-entries, start_shows, start_marked}
use Rattle.std.specs.FinMap as map
use Rattle.tenant_machine.proofs.entries.Entries.activate.Goals as goal

pub returns-in_default : goal.returns-in_default
returns-in_default g c =
    let m = c.self.inside.by_grain in
    let grain = c.args.grain.now in
    subst (λ (old : Entries). Activates old grain NotNow (entries_of m)) c.self.view_is
    (ap (option_and_then (λ e. activated e e.phase)) (get-entries m grain None (sym c.in_default.ensures.value)), refl)

pub returns : goal.returns
returns g c =
    let m = c.self.inside.by_grain in
    let grain = c.args.grain.now in
    let after = c.start.new.activation in
    subst (λ (old : Entries). Activates old grain c.start.result (entries_of (map.insert m grain after))) c.self.view_is
    (start_shows g.L.GrainLogic.logic m grain c.in-Some.activation.now after (sym c.in-Some.ensures.value) c.start.result c.start.ensures)

pub invariant_of-self-2 : goal.invariant_of-self-2
invariant_of-self-2 g c =
    start_marked g.L.GrainLogic.logic c.self.inside.by_grain c.args.grain.now c.in-Some.activation.now c.start.new.activation (sym c.in-Some.ensures.value) c.self.invariant c.start.result c.start.ensures
