use Rattle.std.proofs.Common.{subst}
use Rattle.std.specs.Prelude.{IfNone}
use Rattle.silo_state.specs.inside.Held.{Held}
use Rattle.tenant_accounts.specs.Sends.{NothingSent}
use Rattle.silo_state.proofs.state.SiloState.first_sender.Goals as goal

pub returns-clause-none : goal.returns-clause-none
returns-clause-none g c = subst (λ (h : Held). IfNone c.first_sender.result (NothingSent h.whole.accounts)) c.self.view_is c.first_sender.ensures.none
