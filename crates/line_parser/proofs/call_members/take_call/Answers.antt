use Rattle.std.proofs.Common.{ap}
use Rattle.json.specs.Json.{read_key}
use Rattle.json.specs.Lex.{tokens}
use Rattle.line_parser.proofs.ItemsRead.{members_stop}
use Rattle.line_parser.proofs.call_members.take_call.Goals as goal

pub returns-then-ends_line : goal.returns-then-ends_line
returns-then-ends_line c is =
    let read = c.in-Some.ensures in
    members_stop read.0 (tokens c.in-Some.rest.now) _ _ (tokens c.args.text.now) read.1 (read.2 _) (ap read_key (c.ends_line.ensures c.if-ends_line.true))
