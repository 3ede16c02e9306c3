use Rattle.std.proofs.Common.{sym, ◌∙◌}
use Rattle.journal_text.proofs.OwnText.{is_own, is_none}
use Rattle.journal_text.proofs.line_reader.confirmed.Goals as goal

pub returns-then-same : goal.returns-then-same
returns-then-same c = (c.requires.is_line, is_own c.args.form _ _ (sym c.in-Ok.ensures ∙ c.if-same.true))

pub returns-else-same : goal.returns-else-same
returns-else-same c = is_none c.args.form _ _ c.requires.gives (sym c.in-Ok.ensures ∙ c.if-same.false)
