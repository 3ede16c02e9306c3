use Rattle.std.proofs.Common.{◌≡◌, None, ap, sym, subst}
use Rattle.std.specs.Prelude.{IfOk}
use Rattle.std.specs.Bool.{MatchBool}
use Rattle.json.specs.Json.{read_key}
use Rattle.json.specs.Lex.{tokens}
use Rattle.line_parser.specs.inside.LineMembers.{HasLineMembers, asked_by}
use Rattle.line_parser.proofs.ItemsRead.{members_start, members_stop}
use Rattle.line_parser.proofs.line_members.read_members.Goals as goal

pub returns-then-ends_line : goal.returns-then-ends_line
returns-then-ends_line c =
    let begun = tokens c.in-Some.begun.now in
    let b = c.args.bytes.now.items in
    let read = c.past_plain_members-rest.ensures begun b (members_start begun _ b (c.requires b)) in
    members_stop begun (tokens c.past_plain_members-rest.result.now) _ b (tokens c.args.text.now) c.in-Some.ensures read (ap read_key (c.ends_line.ensures c.if-ends_line.true))

pub read_rest-requires : goal.read_rest-requires
read_rest-requires c =
    let begun = tokens c.in-Some.begun.now in
    let b = c.args.bytes.now.items in
    (begun, c.past_plain_members-rest.ensures begun b (members_start begun _ b (c.requires b)))

pub returns : goal.returns
returns c =
    let begun = tokens c.in-Some.begun.now in
    let b = c.args.bytes.now.items in
    let read = c.past_plain_members-rest.ensures begun b (members_start begun _ b (c.requires b)) in
    subst (λ ts. IfOk c.read_rest.result (λ all. MatchBool all (HasLineMembers ts c.read_rest.new.members c.read_rest.new.bytes.items) (asked_by ts ≡ None))) (sym c.in-Some.ensures)
    (c.read_rest.ensures begun read)
