use Rattle.std.proofs.Common.{◌≡◌, None, subst}
use Rattle.std.specs.Prelude.{IfNone}
use Rattle.std.specs.FinMap as map
use Rattle.grain_id.specs.Names.{Grain}
use Rattle.silo_model.specs.Todo.{work_on}
use Rattle.silo_state.specs.inside.Held.{Held}
use Rattle.silo_state.proofs.state.SiloState.first_work.Goals as goal

pub returns-clause-none : goal.returns-clause-none
returns-clause-none g c = subst (λ (h : Held). IfNone c.first_work.result ((id : Grain) → work_on g.L.GrainLogic.logic id (map.get h.whole.entries id) ≡ None)) c.self.view_is c.first_work.ensures.none
