use Rattle.json.specs.Lex.{tokens}
use Rattle.line_parser.proofs.ItemsRead.{passed_next}
use Rattle.line_parser.proofs.Results.{if_some_as}
use Rattle.line_parser.proofs.plain_members.past_client.Goals as goal

pub returns-then-byte_at-eq111 : goal.returns-then-byte_at-eq111
returns-then-byte_at-eq111 c =
    let behind = tokens c.in_ok-behind.behind.now in
    if_some_as c.take_both.result c.take_both.ensures λ after passes begun l m. passes begun l (passed_next begun (tokens c.args.rest.now) behind _ _ l m c.in_ok-behind.ensures)

pub returns : goal.returns
returns c =
    let behind = tokens c.in_ok-behind-2.behind.now in
    if_some_as c.take_call_word-2.result c.take_call_word-2.ensures λ after passes begun l m. passed_next begun behind (tokens after.now) _ _ l (c.in_ok-behind-2.ensures begun l m) passes
