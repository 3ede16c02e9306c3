use Rattle.line_parser.proofs.Steps.{form_is, named_or_none}
use Rattle.line_parser.proofs.step.form_of.Goals as goal

pub returns-in-None : goal.returns-in-None
returns-in-None c d = named_or_none c.form_of_any.result c.args.op.now d c.form_of_any.ensures.known c.form_of_any.ensures.other

pub returns-in-Some : goal.returns-in-Some
returns-in-Some c d = form_is c.in-Some.form c.args.op.now d c.in-Some.ensures
