use Rattle.std.proofs.Common.{Bool, true, false, inl, inr, ◌∷◌, Some, None, refl, ap, ◌∙◌}
use Rattle.std.specs.Bool.{MatchBool}
use Rattle.json.specs.Token.{begin_object}
use Rattle.line_parser.specs.inside.LineMembers.{name_text}
use Rattle.line_parser.proofs.ItemsRead.{members_next, members_stop}
use Rattle.line_parser.proofs.NoRequest.{members_broken, other_member, text_behind}
use Rattle.line_parser.proofs.Results.{if_ok_as}
use Rattle.line_parser.proofs.line_members.read_further.Goals as goal

pub further-init : goal.further-init
further-init c = record { so_far = λ begun m. m }

pub further-preserved : goal.further-preserved
further-preserved c =
    let l = c.further in
    let name = c.in-Member.name in
    record {
      so_far = λ begun m. members_next begun l.reader c.next_member.new.self c.take_member.new.reader l.members c.take_member.new.members l.bytes.items c.take_member.new.bytes.items name (name_text name) (l.invariant.so_far begun m) (rw c.in-Member.is at c.in_ok-name.ensures) refl c.in_ok-take_member-in-Member.ensures;
    }

pub returns-in-Other : goal.returns-in-Other
returns-in-Other c begun m =
    let l = c.further in
    let so_far = l.invariant.so_far begun m in
    elim c.in-Other.is [
      | inl is ↦ (let other = rw is at c.in_ok-name.ensures in other_member begun l.reader l.members l.bytes.items (begin_object ∷ begun) refl so_far other.0 _ other.1 other.2)
      | inr is ↦ members_broken begun l.reader l.members l.bytes.items (begin_object ∷ begun) refl so_far (rw is at c.in_ok-name.ensures)
    ]

match_bool-map : {A B C D : Type 0} (b : Bool) → MatchBool b A B → (A → C) → (B → D) → MatchBool b C D
match_bool-map true x f g = f x
match_bool-map false x f g = g x

pub returns : goal.returns
returns c begun m =
    let l = c.further in
    let so_far = l.invariant.so_far begun m in
    let next = rw c.in-End.is at c.in_ok-name.ensures in
    if_ok_as c.ends.result c.ends.ensures λ over ends. match_bool-map over ends
    (λ last. members_stop begun l.reader l.members l.bytes.items (begin_object ∷ begun) refl so_far (next ∙ ap (λ ts. Some (None, ts)) last))
    (text_behind begun l.reader l.members l.bytes.items (begin_object ∷ begun) refl so_far _ next)
