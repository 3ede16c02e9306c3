use Rattle.silo_model.proofs.Common.{Err, List, NoMemory, None, Reply, Some, ap, option_and_then, refl, same, subst, sym}
use Rattle.std.specs.Prelude.{IsSome}
use Rattle.std.specs.FinMap as map
use Rattle.silo_state.proofs.Shows.{turn_shown}
use Rattle.silo_state.specs.Closings.{ClosesTold}
use Rattle.tenant_machine.proofs.Ends.{abandon_not, abandon_done}
use Rattle.tenant_machine.proofs.machine.TenantMachine.abandon.Goals as goal

pub returns-in_default : goal.returns-in_default
returns-in_default g c = rw (← c.self.view_is) (abandon_not g.L.GrainLogic.logic _ c.args.grain.now c.args.turn (ap (option_and_then (λ e. map.get e.turns c.args.turn)) (sym c.in_default.ensures.entry)), refl)

pub returns-in_default-opened : goal.returns-in_default-opened
returns-in_default-opened g c =
    rw (← c.self.view_is) (
      abandon_not g.L.GrainLogic.logic _ c.args.grain.now c.args.turn
          (turn_shown c.self.inside.entries c.args.grain.now c.in-Some.activation.now c.args.turn None (sym c.in-Some.ensures.entry) (sym c.in_default-opened.ensures)),
      refl,
    )

pub close_turn-requires-clause-is_open : goal.close_turn-requires-clause-is_open
close_turn-requires-clause-is_open g c =
    subst IsSome (sym (turn_shown c.self.inside.entries c.args.grain.now c.in-Some.activation.now c.args.turn (Some c.in-Some-opened._open.now) (sym c.in-Some.ensures.entry) (sym c.in-Some-opened.ensures))) refl

pub returns : goal.returns
returns g c =
    let b = c.self.inside in
    let closed = subst (λ (replies : List Reply). ClosesTold b.entries replies c.args.grain.now c.args.turn None same b.clock (Err NoMemory) c.close_turn.new.entries c.close_turn.new.replies.items)
    c.in_ok-reserve.ensures.items c.close_turn.ensures in
    rw (← c.self.view_is) (abandon_done g.L.GrainLogic.logic _ c.args.grain.now c.args.turn c.close_turn.new.entries c.close_turn.new.replies.items closed)
