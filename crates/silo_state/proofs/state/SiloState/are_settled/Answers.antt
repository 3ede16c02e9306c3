use Rattle.std.proofs.Common.{◌≡◌, true, subst}
use Rattle.std.specs.Prelude.{◌↔◌, IsTrue}
use Rattle.std.specs.FinMap as map
use Rattle.grain_id.specs.Names.{Grain}
use Rattle.silo_state.specs.inside.Held.{Held}
use Rattle.silo_state.specs.Work.{is_settled}
use Rattle.silo_state.proofs.state.SiloState.are_settled.Goals as goal

pub returns : goal.returns
returns g c = subst (λ (h : Held). IsTrue c.are_settled.result ↔ ((id : Grain) → is_settled (map.get h.whole.entries id) ≡ true)) c.self.view_is c.are_settled.ensures
