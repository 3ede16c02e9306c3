use Rattle.json.specs.Lex.{tokens}
use Rattle.line_parser.proofs.plain_members.take_plain_natural.Goals as goal

pub returns-clause-taken : goal.returns-clause-taken
returns-clause-taken c = c.put_natural.ensures.put c.if-not-put_natural.false (tokens c.args.value.now) (tokens c.in_ok-n.after.now) c.in_ok-n.ensures
