use Rattle.std.proofs.Common.{List, None, Some, refl, ap, sym, ◌∙◌, subst}
use Rattle.std.specs.Prelude.{Err, IsSome, option_and_then}
use Rattle.std.specs.FinMap as map
use Rattle.grain_logic.specs.Logic.{same}
use Rattle.silo_event.specs.declared.fault.Fault.TheVariants.{NoMemory}
use Rattle.silo_event.specs.declared.reply.Reply.{Reply}
use Rattle.silo_model.specs.Machine.{Entries}
use Rattle.silo_state.specs.Closings.{ClosesTold}
use Rattle.silo_state.proofs.Shows.{turn_shown}
use Rattle.silo_state.proofs.Steps.{abandon_none, abandon_moves}
use Rattle.silo_state.proofs.state.SiloState.abandon.Goals as goal

pub returns-in_default : goal.returns-in_default
returns-in_default g c = (
  rw (← c.self.view_is) (abandon_none g.L.GrainLogic.logic (record { whole = _; failures = 0 }) c.args.grain.now c.args.turn (ap (option_and_then (λ e. map.get e.turns c.args.turn)) (sym c.in_default.ensures.entry))),
  refl,
)

pub returns-in_default-opened : goal.returns-in_default-opened
returns-in_default-opened g c =
    let closed = turn_shown c.self.inside.activations.entries c.args.grain.now c.in-Some.activation.now c.args.turn None (sym c.in-Some.ensures.entry) (sym c.in_default-opened.ensures) in
    (rw (← c.self.view_is) (abandon_none g.L.GrainLogic.logic (record { whole = _; failures = 0 }) c.args.grain.now c.args.turn closed), refl)

pub close_turn-requires-clause-is_open : goal.close_turn-requires-clause-is_open
close_turn-requires-clause-is_open g c =
    let there = turn_shown c.self.inside.activations.entries c.args.grain.now c.in-Some.activation.now c.args.turn (Some c.in-Some-opened._open.now) (sym c.in-Some.ensures.entry) (sym c.in-Some-opened.ensures) in
    subst IsSome (sym there) refl

pub returns : goal.returns
returns g c =
    let new = c.close_turn.new.activations in
    let closed = subst (λ (p : Entries × List Reply). ClosesTold p.0 p.1 c.args.grain.now c.args.turn None same c.self.inside.activations.times.clock (Err NoMemory) new.entries c.close_turn.new.replies.items)
    (λ i. (c.self.inside.activations.entries, c.in_ok-reserve.ensures.items i)) c.close_turn.ensures.closes in
    rw (← c.self.view_is) (abandon_moves g.L.GrainLogic.logic _ c.args.grain.now c.args.turn new c.close_turn.new.replies.items c.close_turn.ensures.times closed)
