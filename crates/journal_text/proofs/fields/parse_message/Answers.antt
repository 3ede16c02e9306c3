use Rattle.journal_text.proofs.Forms.{has_message}
use Rattle.journal_text.proofs.fields.parse_message.Goals as goal

pub returns-clause-spelled : goal.returns-clause-spelled
returns-clause-spelled c = has_message c.args.form _ _ _ c.deref.ensures.value c.in_ok-bytes.ensures.in_range c.in_ok-message.ensures.gives c.in_ok-message.ensures.exact
