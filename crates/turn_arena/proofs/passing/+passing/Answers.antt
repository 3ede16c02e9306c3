use Rattle.std.proofs.Common.{rules, ◌≡◌, ◌+◌, ◌-◌, ◌∷◌, ◌++◌, [], Some, None, ap, sym, ◌∙◌, refl, arith}
use Rattle.request_codec.specs.Tree as tree
use Rattle.request_codec.specs.Tree.{null, truth, integer, text}
use Rattle.request_codec.specs.Reading.{value_at, members_at, fields_at}
use Rattle.request_codec.specs.Start.{begun}
use Rattle.request_codec.specs.inside.Ends.{end_of}
use Rattle.request_codec.proofs.Levels.{started, value_at-leaf, value_at-list, value_at-map}
use Rattle.request_codec.proofs.MemberLoops.{with_members, with_fields, members-start, members-go_on, members-done, fields-start, fields-go_on, fields-done}
use Rattle.turn_arena.proofs.Known.{not_none, read_to, known_limit, known_begun, known_members, known_fields, known_member, known_name, known_above, known_field}
use Rattle.turn_arena.proofs.passing.+passing.Goals as goal

-- ---- one value

pub known_end-unreachable-requires : goal.known_end-unreachable-requires
known_end-unreachable-requires t c = known_limit c.args.limit c.args.bytes.now c.requires c.if-limit-eq0.true

pub known_end-known_start-requires : goal.known_end-known_start-requires
known_end-known_start-requires t c = known_begun c.args.limit c.args.bytes.now c.requires

pub known_end-unreachable-requires-in_default : goal.known_end-unreachable-requires-in_default
known_end-unreachable-requires-in_default t c = not_none _ (sym c.in_default.ensures) (known_begun c.args.limit c.args.bytes.now c.requires)

pub known_end-returns-in-Null : goal.known_end-returns-in-Null
known_end-returns-in-Null t c = sym (ap end_of (value_at-leaf c.args.limit c.args.bytes.now null _ c.in-Some.rest.now (omega arith) (started c.in-Some.ensures (ap begun c.in-Null.is)) refl))

pub known_end-returns-in-Bool : goal.known_end-returns-in-Bool
known_end-returns-in-Bool t c = sym (ap end_of (value_at-leaf c.args.limit c.args.bytes.now (truth c.in-Bool.field-0) _ c.in-Some.rest.now (omega arith) (started c.in-Some.ensures (ap begun c.in-Bool.is)) refl))

pub known_end-returns-in-Int : goal.known_end-returns-in-Int
known_end-returns-in-Int t c = sym (ap end_of (value_at-leaf c.args.limit c.args.bytes.now (integer c.in-Int.field-0) _ c.in-Some.rest.now (omega arith) (started c.in-Some.ensures (ap begun c.in-Int.is)) refl))

pub known_end-returns-in-Text : goal.known_end-returns-in-Text
known_end-returns-in-Text t c = sym (ap end_of (value_at-leaf c.args.limit c.args.bytes.now (text c.in-Text.field-0.now) _ c.in-Some.rest.now (omega arith) (started c.in-Some.ensures (ap begun c.in-Text.is)) refl))

pub known_end-returns-in-Bytes : goal.known_end-returns-in-Bytes
known_end-returns-in-Bytes t c = sym (ap end_of (value_at-leaf c.args.limit c.args.bytes.now (tree.bytes c.in-Bytes.field-0.now) _ c.in-Some.rest.now (omega arith) (started c.in-Some.ensures (ap begun c.in-Bytes.is)) refl))

pub known_end-known_members_end-requires : goal.known_end-known_members_end-requires
known_end-known_members_end-requires t c = (search rules, known_members c.args.limit c.args.bytes.now c.requires c.in-List.count c.in-Some.rest.now (omega arith) (started c.in-Some.ensures (ap begun c.in-List.is)))

pub known_end-returns-in-List : goal.known_end-returns-in-List
known_end-returns-in-List t c =
    let done = read_to _ _ c.known_members_end.ensures in
    sym (ap end_of (value_at-list c.args.limit c.args.bytes.now c.in-List.count c.in-Some.rest.now done.0 _ c.known_members_end.result.now (omega arith) (started c.in-Some.ensures (ap begun c.in-List.is)) done.1 refl))

pub known_end-known_fields_end-requires : goal.known_end-known_fields_end-requires
known_end-known_fields_end-requires t c = (search rules, known_fields c.args.limit c.args.bytes.now c.requires c.in-Map.count c.in-Some.rest.now (omega arith) (started c.in-Some.ensures (ap begun c.in-Map.is)))

pub known_end-returns-in-Map : goal.known_end-returns-in-Map
known_end-returns-in-Map t c =
    let done = read_to _ _ c.known_fields_end.ensures in
    sym (ap end_of (value_at-map c.args.limit c.args.bytes.now c.in-Map.count c.in-Some.rest.now done.0 _ c.known_fields_end.result.now (omega arith) (started c.in-Some.ensures (ap begun c.in-Map.is)) done.1 refl))

-- ---- the members of a list

pub known_members_end-items-init : goal.known_members_end-items-init
known_members_end-items-init t c =
    let all : c.args.count - 0 ≡ c.args.count = omega arith in
    let total = members_at (value_at c.args.limit) c.args.count c.args.bytes.now in
    ([], ap (λ n. with_members [] (members_at (value_at c.args.limit) n c.args.bytes.now)) all ∙ members-start total)

pub known_members_end-known_end-rest-requires : goal.known_members_end-known_end-rest-requires
known_members_end-known_end-rest-requires t c =
    let l = c.items in
    (search rules, known_member (value_at c.args.limit) l.invariant.0 c.args.count l.counter l.rest.now (members_at (value_at c.args.limit) c.args.count c.args.bytes.now) c.items-test.true l.invariant.1 c.requires)

pub known_members_end-items-preserved : goal.known_members_end-items-preserved
known_members_end-items-preserved t c =
    let l = c.items in
    let one = read_to _ _ c.known_end-rest.ensures in (
      l.invariant.0 ++ one.0 ∷ [],
      members-go_on (value_at c.args.limit) l.invariant.0 c.args.count l.counter l.rest.now one.0 c.known_end-rest.result.now (members_at (value_at c.args.limit) c.args.count c.args.bytes.now) c.items-test.true one.1 l.invariant.1,
    )

pub known_members_end-returns : goal.known_members_end-returns
known_members_end-returns t c =
    let l = c.items in
    sym (ap end_of (members-done (value_at c.args.limit) l.invariant.0 c.args.count l.counter l.rest.now (members_at (value_at c.args.limit) c.args.count c.args.bytes.now) c.items-test.false l.invariant.1))

-- ---- the members of a map

pub known_fields_end-fields-init : goal.known_fields_end-fields-init
known_fields_end-fields-init t c =
    let all : c.args.count - 0 ≡ c.args.count = omega arith in
    let total = fields_at (value_at c.args.limit) c.args.count None c.args.bytes.now in
    ([], None, ap (λ n. with_fields [] (fields_at (value_at c.args.limit) n None c.args.bytes.now)) all ∙ fields-start total)

pub known_fields_end-known_text-requires : goal.known_fields_end-known_text-requires
known_fields_end-known_text-requires t c =
    let l = c.fields in
    known_name (value_at c.args.limit) l.invariant.0 c.args.count l.counter l.invariant.1 l.rest.now (fields_at (value_at c.args.limit) c.args.count None c.args.bytes.now) c.fields-test.true l.invariant.2 c.requires

pub known_fields_end-unreachable-requires : goal.known_fields_end-unreachable-requires
known_fields_end-unreachable-requires t c =
    let l = c.fields in
    not_none _ (sym c.in_default.ensures) (known_name (value_at c.args.limit) l.invariant.0 c.args.count l.counter l.invariant.1 l.rest.now (fields_at (value_at c.args.limit) c.args.count None c.args.bytes.now) c.fields-test.true l.invariant.2 c.requires)

pub known_fields_end-known_end-rest-requires : goal.known_fields_end-known_end-rest-requires
known_fields_end-known_end-rest-requires t c =
    let l = c.fields in
    (search rules, known_field (value_at c.args.limit) l.invariant.0 c.args.count l.counter l.invariant.1 l.rest.now (fields_at (value_at c.args.limit) c.args.count None c.args.bytes.now) c.fields-test.true l.invariant.2 c.requires c.in-Some.field-0-0.now c.in-Some.behind.now (sym c.in-Some.ensures))

pub known_fields_end-fields-preserved : goal.known_fields_end-fields-preserved
known_fields_end-fields-preserved t c =
    let l = c.fields in
    let name = c.in-Some.field-0-0.now in
    let total = fields_at (value_at c.args.limit) c.args.count None c.args.bytes.now in
    let above = known_above (value_at c.args.limit) l.invariant.0 c.args.count l.counter l.invariant.1 l.rest.now total c.fields-test.true l.invariant.2 c.requires name c.in-Some.behind.now (sym c.in-Some.ensures) in
    let one = read_to _ _ c.known_end-rest.ensures in (
      l.invariant.0 ++ (name, one.0) ∷ [],
      Some name,
      fields-go_on (value_at c.args.limit) l.invariant.0 c.args.count l.counter l.invariant.1 l.rest.now name c.in-Some.behind.now one.0 c.known_end-rest.result.now total c.fields-test.true (sym c.in-Some.ensures) above one.1 l.invariant.2,
    )

pub known_fields_end-returns : goal.known_fields_end-returns
known_fields_end-returns t c =
    let l = c.fields in
    sym (ap end_of (fields-done (value_at c.args.limit) l.invariant.0 c.args.count l.counter l.invariant.1 l.rest.now (fields_at (value_at c.args.limit) c.args.count None c.args.bytes.now) c.fields-test.false l.invariant.2))
