use Rattle.std.proofs.Common.{◌∙◌, sym}
use Rattle.journal_commands.proofs.auditing.end_of.Goals as goal

pub returns-then-has_difference : goal.returns-then-has_difference
returns-then-has_difference c = sym c.has_difference.ensures ∙ c.if-has_difference.true

pub returns-else-has_difference : goal.returns-else-has_difference
returns-else-has_difference c = sym c.has_difference.ensures ∙ c.if-has_difference.false
