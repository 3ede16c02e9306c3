use Rattle.std.proofs.Common.{◌≡◌, ◌+◌, [], refl, rules, ap, ◌∙◌}
use Rattle.json.specs.Json.{read_key}
use Rattle.json.specs.Lex.{tokens}
use Rattle.line_parser.proofs.ItemsRead.{members_start}
use Rattle.line_parser.proofs.NotNaturals.{not_natural_member}
use Rattle.line_parser.proofs.not_natural.take_not_natural.Goals as goal

pub returns : goal.returns
returns c so =
    let begun = tokens c.in-Some.begun.now in
    let line = c.past_plain_members-rest.new.members in
    let read = c.past_plain_members-rest.ensures begun [] (members_start begun _ [] (c.requires [])) in
    let more : c.in-Some-checked_add.count ≡ line.count + 1 = search rules in
    not_natural_member (tokens c.args.text.now) begun (tokens c.past_plain_members-rest.result.now) (tokens c.in-Some-plain_name.value.now) line _ c.in-Some-plain_name.name c.in-Some-checked_add.count c.in-Some.ensures read (ap read_key c.in-Some-plain_name.ensures)
    (c.in_ok-ends.ensures c.if-not-ends.false) (c.is_unset.ensures c.if-not-is_unset.false) more refl
