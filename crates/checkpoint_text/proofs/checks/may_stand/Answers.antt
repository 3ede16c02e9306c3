use Rattle.checkpoint_text.specs.Answers.{parts_in}
use Rattle.checkpoint_text.proofs.Standing.{stands_if}
use Rattle.checkpoint_text.proofs.checks.may_stand.Goals as goal

pub returns-clause-stands : goal.returns-clause-stands
returns-clause-stands c = stands_if (parts_in c.args.parts.now) c.is_spelled.result c.see_parts.ensures c.is_spelled.ensures
