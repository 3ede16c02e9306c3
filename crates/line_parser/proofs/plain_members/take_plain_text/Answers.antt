use Rattle.json.specs.Lex.{tokens}
use Rattle.line_parser.proofs.plain_members.take_plain_text.Goals as goal

pub returns-clause-taken : goal.returns-clause-taken
returns-clause-taken c = c.put_text.ensures.put c.if-not-put_text.false (tokens c.args.value.now) (tokens c.in_ok-text.after.now) c.in_ok-text.ensures
