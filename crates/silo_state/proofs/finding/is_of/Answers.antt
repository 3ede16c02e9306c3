use Rattle.std.proofs.Common.{sym, ◌∙◌}
use Rattle.grain_id.proofs.Order.{same_text_decides}
use Rattle.silo_state.proofs.finding.is_of.Goals as goal

pub returns-clause-own : goal.returns-clause-own
returns-clause-own c = λ e. record {
  kind_is = sym c.kind.ensures ∙ (same_text_decides _ _).0 (sym c.eq-same_kind.ensures ∙ c.if-not-same_kind.false);
  state_is = c.eq.ensures.by_value.0 e;
  message_is = c.eq-same_message.ensures.by_value.0 c.if-not-same_message.false;
}
