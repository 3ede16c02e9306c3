use Rattle.silo_state.proofs.Steps.{begins_move}
use Rattle.silo_state.proofs.state.SiloState.begin.Goals as goal

pub returns-clause-moves : goal.returns-clause-moves
returns-clause-moves g c = rw (← c.self.view_is) (begins_move g.L.GrainLogic.logic _ c.args.grain.now c.begin.new.self c.begin.ensures.times c.begin.result c.begin.ensures.begins)
