use Rattle.std.proofs.Common.{◌≡◌, ◌-◌, false, None, option_map, sym, ap, ◌∙◌, arith}
use Rattle.request_codec.specs.Tree as tree
use Rattle.request_codec.specs.Tree.{null, truth, integer, text, holds_bytes, members_hold_bytes}
use Rattle.request_codec.specs.Reading.{value_at, members_at}
use Rattle.request_codec.specs.Start.{begun}
use Rattle.request_codec.specs.inside.Ends.{holding}
use Rattle.request_codec.proofs.Levels.{value_at-zero, value_at-unstarted, started}
use Rattle.request_codec.proofs.BytesFound.{held_leaf, held_list, held_map, so_far, so_far-start, held_members-next, held_members-none, held_members-done, fields_held, held_fields-next, held_fields-unnamed, held_fields-misplaced, held_fields-none, held_fields-done}
use Rattle.request_codec.proofs.migrate.+finding.Goals as goal

-- ---- one value

pub bytes_found-returns-then-limit-eq0 : goal.bytes_found-returns-then-limit-eq0
bytes_found-returns-then-limit-eq0 t c = sym (ap (holding holds_bytes) (value_at-zero c.args.limit c.args.bytes.now (omega arith)))

pub bytes_found-returns-in_default : goal.bytes_found-returns-in_default
bytes_found-returns-in_default t c = sym (ap (holding holds_bytes) (value_at-unstarted c.args.limit c.args.bytes.now (sym c.in_default.ensures)))

pub bytes_found-returns-in-Null : goal.bytes_found-returns-in-Null
bytes_found-returns-in-Null t c = held_leaf c.args.limit c.args.bytes.now null c.in-Some.rest.now c.if-limit-eq0.false (started c.in-Some.ensures (ap begun c.in-Null.is))

pub bytes_found-returns-in-Bool : goal.bytes_found-returns-in-Bool
bytes_found-returns-in-Bool t c = held_leaf c.args.limit c.args.bytes.now (truth c.in-Bool.field-0) c.in-Some.rest.now c.if-limit-eq0.false (started c.in-Some.ensures (ap begun c.in-Bool.is))

pub bytes_found-returns-in-Int : goal.bytes_found-returns-in-Int
bytes_found-returns-in-Int t c = held_leaf c.args.limit c.args.bytes.now (integer c.in-Int.field-0) c.in-Some.rest.now c.if-limit-eq0.false (started c.in-Some.ensures (ap begun c.in-Int.is))

pub bytes_found-returns-in-Text : goal.bytes_found-returns-in-Text
bytes_found-returns-in-Text t c = held_leaf c.args.limit c.args.bytes.now (text c.in-Text.field-0.now) c.in-Some.rest.now c.if-limit-eq0.false (started c.in-Some.ensures (ap begun c.in-Text.is))

pub bytes_found-returns-in-Bytes : goal.bytes_found-returns-in-Bytes
bytes_found-returns-in-Bytes t c = held_leaf c.args.limit c.args.bytes.now (tree.bytes c.in-Bytes.field-0.now) c.in-Some.rest.now c.if-limit-eq0.false (started c.in-Some.ensures (ap begun c.in-Bytes.is))

pub bytes_found-returns-in-List : goal.bytes_found-returns-in-List
bytes_found-returns-in-List t c = c.members_found.ensures ∙ held_list c.args.limit c.args.bytes.now c.in-List.count c.in-Some.rest.now c.if-limit-eq0.false (started c.in-Some.ensures (ap begun c.in-List.is))

pub bytes_found-returns-in-Map : goal.bytes_found-returns-in-Map
bytes_found-returns-in-Map t c = c.fields_found.ensures ∙ held_map c.args.limit c.args.bytes.now c.in-Map.count c.in-Some.rest.now c.if-limit-eq0.false (started c.in-Some.ensures (ap begun c.in-Map.is))

-- ---- members

pub members_found-items-init : goal.members_found-items-init
members_found-items-init t c =
    let all : c.args.count - 0 ≡ c.args.count = omega arith in
    ap (λ n. so_far false (holding members_hold_bytes (members_at (value_at c.args.limit) n c.args.bytes.now))) all ∙ so_far-start (holding members_hold_bytes (members_at (value_at c.args.limit) c.args.count c.args.bytes.now))

pub members_found-returns-in_default : goal.members_found-returns-in_default
members_found-returns-in_default t c = held_members-none (value_at c.args.limit) c.args.count c.items.counter c.items.found c.items.rest.now (holding members_hold_bytes (members_at (value_at c.args.limit) c.args.count c.args.bytes.now)) c.items-test.true c.in_default.ensures c.items.invariant

pub members_found-items-preserved : goal.members_found-items-preserved
members_found-items-preserved t c = held_members-next (value_at c.args.limit) c.args.count c.items.counter c.items.found c.in-Some.here c.items.rest.now c.in-Some.after.now (holding members_hold_bytes (members_at (value_at c.args.limit) c.args.count c.args.bytes.now)) c.items-test.true c.in-Some.ensures c.items.invariant

pub members_found-returns : goal.members_found-returns
members_found-returns t c = held_members-done (value_at c.args.limit) c.args.count c.items.counter c.items.found c.items.rest.now (holding members_hold_bytes (members_at (value_at c.args.limit) c.args.count c.args.bytes.now)) c.items-test.false c.items.invariant

pub fields_found-fields-init : goal.fields_found-fields-init
fields_found-fields-init t c =
    let all : c.args.count - 0 ≡ c.args.count = omega arith in
    ap (λ n. so_far false (fields_held (value_at c.args.limit) n None c.args.bytes.now)) all ∙ so_far-start (fields_held (value_at c.args.limit) c.args.count None c.args.bytes.now)

pub fields_found-returns-in_default : goal.fields_found-returns-in_default
fields_found-returns-in_default t c =
    let l = c.fields in
    held_fields-unnamed (value_at c.args.limit) c.args.count l.counter (option_map (λ s. s.now) l.last) l.found l.rest.now (fields_held (value_at c.args.limit) c.args.count None c.args.bytes.now) c.fields-test.true (sym c.in_default.ensures) l.invariant

pub fields_found-returns-in_default-bytes_found : goal.fields_found-returns-in_default-bytes_found
fields_found-returns-in_default-bytes_found t c =
    let l = c.fields in
    held_fields-none (value_at c.args.limit) c.args.count l.counter (option_map (λ s. s.now) l.last) l.found l.rest.now c.in-Some.name.now c.in-Some.behind.now (fields_held (value_at c.args.limit) c.args.count None c.args.bytes.now) c.fields-test.true (sym c.in-Some.ensures) (sym c.may_follow.ensures ∙ c.if-not-may_follow.false) c.in_default-bytes_found.ensures l.invariant

pub fields_found-returns-then-not-may_follow : goal.fields_found-returns-then-not-may_follow
fields_found-returns-then-not-may_follow t c =
    let l = c.fields in
    held_fields-misplaced (value_at c.args.limit) c.args.count l.counter (option_map (λ s. s.now) l.last) l.found l.rest.now c.in-Some.name.now c.in-Some.behind.now (fields_held (value_at c.args.limit) c.args.count None c.args.bytes.now) c.fields-test.true (sym c.in-Some.ensures) (sym c.may_follow.ensures ∙ c.if-not-may_follow.true) l.invariant

pub fields_found-fields-preserved : goal.fields_found-fields-preserved
fields_found-fields-preserved t c =
    let l = c.fields in
    held_fields-next (value_at c.args.limit) c.args.count l.counter (option_map (λ s. s.now) l.last) l.found c.in-Some-bytes_found.here l.rest.now c.in-Some.name.now c.in-Some.behind.now c.in-Some-bytes_found.after.now (fields_held (value_at c.args.limit) c.args.count None c.args.bytes.now) c.fields-test.true (sym c.in-Some.ensures) (sym c.may_follow.ensures ∙ c.if-not-may_follow.false) c.in-Some-bytes_found.ensures l.invariant

pub fields_found-returns : goal.fields_found-returns
fields_found-returns t c =
    let l = c.fields in
    held_fields-done (value_at c.args.limit) c.args.count l.counter (option_map (λ s. s.now) l.last) l.found l.rest.now (fields_held (value_at c.args.limit) c.args.count None c.args.bytes.now) c.fields-test.false l.invariant
