use Rattle.std.proofs.Common.{refl, subst}
use Rattle.std.specs.FinMap as map
use Rattle.silo_state.specs.Finds.{PlansIfOpen}
use Rattle.silo_state.proofs.Ends.{end_none}
use Rattle.silo_state.proofs.state.SiloState.run_end.Goals as goal

pub returns-in_default : goal.returns-in_default
returns-in_default g c =
    let logic = g.L.GrainLogic.logic in
    let h = c.args.self.now in
    let grain = c.args.grain.now in
    let turn = c.args.turn in
    (end_none logic h grain turn (subst (PlansIfOpen logic grain (map.get h.whole.entries grain) turn) c.in_default.is c.in_ok-planned.ensures), refl)
