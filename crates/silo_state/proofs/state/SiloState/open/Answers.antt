use Rattle.std.proofs.Common.{Bool, subst}
use Rattle.silo_state.specs.Entries.{Begins}
use Rattle.silo_state.proofs.Steps.{begin_moves, begin_stays}
use Rattle.silo_state.proofs.state.SiloState.open.Goals.{then-branch, else-branch}
use Rattle.silo_state.proofs.state.SiloState.open.Goals as goal

pub returns : goal.returns
returns g c =
    let begun = λ (opened : Bool). Begins g.L.GrainLogic.logic c.self.inside.activations.entries c.args.grain.now opened c.open.new.self.entries in
    rw (← c.self.view_is) (elim c.if-branch.branch [
      | then-branch w ↦ rw w.result-is (begin_moves g.L.GrainLogic.logic _ c.args.grain.now c.open.new.self c.open.ensures.times (subst begun w.if-branch.true c.in_ok-open.ensures.begins))
      | else-branch w ↦ rw w.result-is (begin_stays g.L.GrainLogic.logic _ c.args.grain.now c.open.new.self c.open.ensures.times (subst begun w.if-branch.false c.in_ok-open.ensures.begins))
    ])
