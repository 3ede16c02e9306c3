use Rattle.std.proofs.Common.{refl}
use Rattle.silo_state.proofs.Ends.{end_none}
use Rattle.silo_state.proofs.state.SiloState.end.Goals as goal

pub returns-in-NotOpen-clause-moves : goal.returns-in-NotOpen-clause-moves
returns-in-NotOpen-clause-moves g c = (end_none g.L.GrainLogic.logic c.args.self.now c.args.grain.now c.args.turn c.in-NotOpen.ensures, refl)
