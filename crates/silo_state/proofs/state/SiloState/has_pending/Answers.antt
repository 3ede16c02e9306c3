use Rattle.std.proofs.Common.{ap, ◌∙◌}
use Rattle.silo_state.specs.inside.Held.{Held}
use Rattle.silo_state.specs.Work.{pending_in_part}
use Rattle.silo_state.proofs.Pendings.{pending_shown}
use Rattle.silo_state.proofs.state.SiloState.has_pending.Goals as goal

pub returns : goal.returns
returns g c = c.has_from.ensures ∙ ap (λ (h : Held). pending_in_part c.args.client.now h.whole.entries) c.self.view_is ∙ pending_shown c.args.client.now c.args.self.now.whole
