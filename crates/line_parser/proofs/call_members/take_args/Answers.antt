use Rattle.std.proofs.Common.{◌≡◌, ◌+◌, ◌∷◌, refl, ap, sym, rules, ◌∙◌}
use Rattle.json.specs.Token.{begin_object}
use Rattle.json.specs.Json.{read_key}
use Rattle.json.specs.Lex.{tokens}
use Rattle.line_parser.specs.inside.LineMembers.{name_text}
use Rattle.line_parser.specs.declared.line_members.Name.TheVariants.{Args}
use Rattle.line_parser.proofs.ItemsRead.{members_next, members_stop}
use Rattle.line_parser.proofs.MembersTaken.{args_taken, neither}
use Rattle.line_parser.proofs.call_members.take_args.Goals as goal

pub returns-in-Taken : goal.returns-in-Taken
returns-in-Taken c is begun m =
    let old = c.args.members.now in
    let before = c.args.bytes.now.items in
    let after = c.take_last.new.bytes.items in
    let value = tokens c.in-Some-Args-default.value.now in
    let last = rw c.in-Taken.is at c.in_ok-refusal.ensures in
    let more : c.in-Some.count ≡ old.count + 1 = search rules in
    let taken = args_taken old c.in-Some.count before after value last.0 c.in-Taken.refusal last.1 (neither old.args old.state (sym c.has_value.ensures ∙ c.if-has_value.false)) more in
    members_stop begun last.0 _ after (begin_object ∷ begun) refl (members_next begun (tokens c.args.rest.now) value last.0 old _ before after Args (name_text Args) (m before) (ap read_key (rw c.in-Some-Args-default.field-0-0-is at c.in-Some-Args-default.ensures)) refl taken) last.2
