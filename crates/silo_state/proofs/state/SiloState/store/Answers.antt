use Rattle.std.proofs.Common.{refl, ap, sym, subst}
use Rattle.std.specs.FinMap as map
use Rattle.silo_event.specs.declared.opened_turn.OpenedTurn.{OpenedTurn}
use Rattle.silo_state.specs.Finds.{IsOwn}
use Rattle.silo_state.proofs.Stores.{store_none}
use Rattle.silo_state.proofs.state.SiloState.store.Goals as goal

pub returns-in-NotOpen-clause-moves : goal.returns-in-NotOpen-clause-moves
returns-in-NotOpen-clause-moves g c = (store_none g.L.GrainLogic.logic c.args.self.now c.args.grain.now c.args.turn c.args.failed c.in-NotOpen.ensures, refl)

pub store_own-requires : goal.store_own-requires
store_own-requires g c =
    let input = c.args.finished.now in
    let own = subst (λ (t : OpenedTurn). IsOwn c.args.grain.now (map.get c.args.self.now.whole.entries c.args.grain.now) c.args.turn c.in-Own.version c.in-Own.idle_after t) c.input.ensures c.in-Own.ensures in
    record { input = input; own = own; state_is = sym (ap (λ (t : OpenedTurn). t.state) c.input-in-Own.ensures); call_is = c.store_call-call.ensures }
