use Rattle.journal_text.proofs.Forms.{has_state}
use Rattle.journal_text.proofs.fields.parse_state.Goals as goal

pub returns-clause-spelled : goal.returns-clause-spelled
returns-clause-spelled c = has_state c.args.form _ _ _ c.deref.ensures.value c.in_ok-bytes.ensures.in_range c.in_ok-state.ensures.gives c.in_ok-state.ensures.exact
