use Rattle.std.proofs.Common.{◌≡◌, None, ◌∷◌, sym, subst, ◌∙◌}
use Rattle.std.specs.Prelude.{IfOk}
use Rattle.std.specs.Bool.{MatchBool}
use Rattle.json.specs.Token.{begin_object}
use Rattle.json.specs.Lex.{tokens}
use Rattle.line_parser.specs.inside.LineMembers.{HasLineMembers, asked_by}
use Rattle.line_parser.proofs.ItemsRead.{members_start}
use Rattle.line_parser.proofs.NoObject.{asked_by-no_object}
use Rattle.line_parser.proofs.line_members.read_any_members.Goals as goal

pub returns-then-begins_no_map : goal.returns-then-begins_no_map
returns-then-begins_no_map c = asked_by-no_object (tokens c.args.text.now) (c.begins_no_map.ensures c.if-begins_no_map.true)

pub returns-then-not-begins : goal.returns-then-not-begins
returns-then-not-begins c = subst (λ ts. asked_by ts ≡ None) c.new-reader.ensures (asked_by-no_object c.new-reader.result (rw c.if-not-begins.true at c.in_ok-begins.ensures))

pub read_further-requires : goal.read_further-requires
read_further-requires c = (c.take_begin_map.new.self, members_start c.take_begin_map.new.self _ c.args.bytes.now.items (c.requires c.args.bytes.now.items))

pub returns : goal.returns
returns c =
    let begun = c.take_begin_map.new.self in
    let first = rw c.if-not-begins.false at c.in_ok-begins.ensures in
    let whole : tokens c.args.text.now ≡ begin_object ∷ begun = sym c.new-reader.ensures ∙ first in
    subst (λ ts. IfOk c.read_further.result (λ all. MatchBool all (HasLineMembers ts c.read_further.new.members c.read_further.new.bytes.items) (asked_by ts ≡ None))) (sym whole)
    (c.read_further.ensures begun (members_start begun _ c.args.bytes.now.items (c.requires c.args.bytes.now.items)))
