use Rattle.std.proofs.Common.{ap, sym, subst}
use Rattle.grain_logic.specs.Laws.{IsKeep}
use Rattle.grain_logic.specs.Logic.{Plan}
use Rattle.grain_logic.proofs.turn.FinishedTurn.keep.Goals as goal

pub returns-clause-in_range : goal.returns-clause-in_range
returns-clause-in_range g c =
    let t = c.self.inside.opened in
    subst IsKeep (sym (ap (λ (p : Plan). p.keep) c.self.invariant))
    (g.met.L.GrainLogic.lawful.stays_in_range t.grain.kind t.message.method t.state t.message.argument)
