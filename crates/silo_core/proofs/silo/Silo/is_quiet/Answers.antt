use Rattle.std.proofs.Common.{sym, ◌∙◌, subst, true≢false}
use Rattle.std.specs.Prelude.{◌↔◌, IsTrue}
use Rattle.silo_model.specs.Pending.{AllQuiet}
use Rattle.silo_core.specs.History.{History}
use Rattle.silo_core.proofs.Quiet.{sender_tells, settled_there}
use Rattle.silo_core.proofs.silo.Silo.is_quiet.Goals as goal

pub returns-then-are_settled : goal.returns-then-are_settled
returns-then-are_settled g c =
    subst (λ (h : History). IsTrue c.is_none.result ↔ AllQuiet h.whole) c.self.view_is
    (sender_tells c.self.inside.state.whole (c.are_settled.ensures.0 c.if-are_settled.true) c.first_sender.result c.is_none.result c.is_none.ensures c.first_sender.ensures.found c.first_sender.ensures.none)

pub returns-else-are_settled : goal.returns-else-are_settled
returns-else-are_settled g c = (
  (λ settled. absurd (true≢false (sym settled ∙ c.if-are_settled.false))),
  (λ quiet. c.are_settled.ensures.1 (settled_there c.self.inside.state.whole (subst (λ (h : History). AllQuiet h.whole) (sym c.self.view_is) quiet))),
)
