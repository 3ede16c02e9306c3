use Rattle.std.proofs.Common.{refl, subst}
use Rattle.std.specs.FinMap as map
use Rattle.silo_state.specs.Finds.{AsksIfOpen}
use Rattle.silo_state.proofs.Stores.{store_none}
use Rattle.silo_state.proofs.state.SiloState.run_store.Goals as goal

pub returns-in_default : goal.returns-in_default
returns-in_default g c =
    let logic = g.L.GrainLogic.logic in
    let h = c.args.self.now in
    let grain = c.args.grain.now in
    let turn = c.args.turn in
    (store_none logic h grain turn c.args.failed (subst (AsksIfOpen logic grain (map.get h.whole.entries grain) turn) c.in_default.is c.in_ok-asked.ensures), refl)
