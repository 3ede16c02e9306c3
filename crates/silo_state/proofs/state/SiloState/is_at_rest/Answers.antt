use Rattle.std.proofs.Common.{subst}
use Rattle.std.specs.Prelude.{◌↔◌, IsTrue}
use Rattle.silo_model.specs.Collected.{AllIdle}
use Rattle.silo_state.specs.inside.Held.{Held}
use Rattle.silo_state.proofs.state.SiloState.is_at_rest.Goals as goal

pub returns : goal.returns
returns g c = subst (λ (h : Held). IsTrue c.are_idle.result ↔ AllIdle h.whole.entries) c.self.view_is c.are_idle.ensures
