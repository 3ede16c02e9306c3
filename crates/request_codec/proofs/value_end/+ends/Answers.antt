use Rattle.std.proofs.Common.{None, option_map, sym, ap, ◌∙◌, arith}
use Rattle.request_codec.specs.Tree as tree
use Rattle.request_codec.specs.Tree.{null, truth, integer, text}
use Rattle.request_codec.specs.Reading.{value_at, members_at, fields_at}
use Rattle.request_codec.specs.Start.{begun}
use Rattle.request_codec.specs.inside.Ends.{end_of}
use Rattle.request_codec.proofs.Levels.{value_at-zero, value_at-unstarted, started}
use Rattle.request_codec.proofs.ValueEnds.{value_end-leaf, value_end-list, value_end-map, members_end-next, members_end-none, members_end-done, fields_end-next, fields_end-unnamed, fields_end-misplaced, fields_end-none, fields_end-done}
use Rattle.request_codec.proofs.value_end.+ends.Goals as goal

-- ---- one value

pub value_end-returns-then-limit-eq0 : goal.value_end-returns-then-limit-eq0
value_end-returns-then-limit-eq0 t c = sym (ap end_of (value_at-zero c.args.limit c.args.bytes.now (omega arith)))

pub value_end-returns-in_default : goal.value_end-returns-in_default
value_end-returns-in_default t c = sym (ap end_of (value_at-unstarted c.args.limit c.args.bytes.now (sym c.in_default.ensures)))

pub value_end-returns-in-Null : goal.value_end-returns-in-Null
value_end-returns-in-Null t c = value_end-leaf c.args.limit c.args.bytes.now null c.in-Some.rest.now c.if-limit-eq0.false (started c.in-Some.ensures (ap begun c.in-Null.is))

pub value_end-returns-in-Bool : goal.value_end-returns-in-Bool
value_end-returns-in-Bool t c = value_end-leaf c.args.limit c.args.bytes.now (truth c.in-Bool.field-0) c.in-Some.rest.now c.if-limit-eq0.false (started c.in-Some.ensures (ap begun c.in-Bool.is))

pub value_end-returns-in-Int : goal.value_end-returns-in-Int
value_end-returns-in-Int t c = value_end-leaf c.args.limit c.args.bytes.now (integer c.in-Int.field-0) c.in-Some.rest.now c.if-limit-eq0.false (started c.in-Some.ensures (ap begun c.in-Int.is))

pub value_end-returns-in-Text : goal.value_end-returns-in-Text
value_end-returns-in-Text t c = value_end-leaf c.args.limit c.args.bytes.now (text c.in-Text.field-0.now) c.in-Some.rest.now c.if-limit-eq0.false (started c.in-Some.ensures (ap begun c.in-Text.is))

pub value_end-returns-in-Bytes : goal.value_end-returns-in-Bytes
value_end-returns-in-Bytes t c = value_end-leaf c.args.limit c.args.bytes.now (tree.bytes c.in-Bytes.field-0.now) c.in-Some.rest.now c.if-limit-eq0.false (started c.in-Some.ensures (ap begun c.in-Bytes.is))

pub value_end-returns-in-List : goal.value_end-returns-in-List
value_end-returns-in-List t c = c.members_end.ensures ∙ value_end-list c.args.limit c.args.bytes.now c.in-List.count c.in-Some.rest.now c.if-limit-eq0.false (started c.in-Some.ensures (ap begun c.in-List.is))

pub value_end-returns-in-Map : goal.value_end-returns-in-Map
value_end-returns-in-Map t c = c.fields_end.ensures ∙ value_end-map c.args.limit c.args.bytes.now c.in-Map.count c.in-Some.rest.now c.if-limit-eq0.false (started c.in-Some.ensures (ap begun c.in-Map.is))

-- ---- members

pub members_end-returns-in_default : goal.members_end-returns-in_default
members_end-returns-in_default t c = members_end-none (value_at c.args.limit) c.args.count c.items.counter c.items.rest.now (end_of (members_at (value_at c.args.limit) c.args.count c.args.bytes.now)) c.items-test.true c.in_default.ensures c.items.invariant

pub members_end-items-preserved : goal.members_end-items-preserved
members_end-items-preserved t c = members_end-next (value_at c.args.limit) c.args.count c.items.counter c.items.rest.now c.in-Some.after.now (end_of (members_at (value_at c.args.limit) c.args.count c.args.bytes.now)) c.items-test.true c.in-Some.ensures c.items.invariant

pub members_end-returns : goal.members_end-returns
members_end-returns t c = members_end-done (value_at c.args.limit) c.args.count c.items.counter c.items.rest.now (end_of (members_at (value_at c.args.limit) c.args.count c.args.bytes.now)) c.items-test.false c.items.invariant

pub fields_end-returns-in_default : goal.fields_end-returns-in_default
fields_end-returns-in_default t c =
    let l = c.fields in
    fields_end-unnamed (value_at c.args.limit) c.args.count l.counter (option_map (λ s. s.now) l.last) l.rest.now (end_of (fields_at (value_at c.args.limit) c.args.count None c.args.bytes.now)) c.fields-test.true (sym c.in_default.ensures) l.invariant

pub fields_end-returns-in_default-value_end : goal.fields_end-returns-in_default-value_end
fields_end-returns-in_default-value_end t c =
    let l = c.fields in
    fields_end-none (value_at c.args.limit) c.args.count l.counter (option_map (λ s. s.now) l.last) l.rest.now c.in-Some.name.now c.in-Some.behind.now (end_of (fields_at (value_at c.args.limit) c.args.count None c.args.bytes.now)) c.fields-test.true (sym c.in-Some.ensures) (sym c.may_follow.ensures ∙ c.if-not-may_follow.false) c.in_default-value_end.ensures l.invariant

pub fields_end-returns-then-not-may_follow : goal.fields_end-returns-then-not-may_follow
fields_end-returns-then-not-may_follow t c =
    let l = c.fields in
    fields_end-misplaced (value_at c.args.limit) c.args.count l.counter (option_map (λ s. s.now) l.last) l.rest.now c.in-Some.name.now c.in-Some.behind.now (end_of (fields_at (value_at c.args.limit) c.args.count None c.args.bytes.now)) c.fields-test.true (sym c.in-Some.ensures) (sym c.may_follow.ensures ∙ c.if-not-may_follow.true) l.invariant

pub fields_end-fields-preserved : goal.fields_end-fields-preserved
fields_end-fields-preserved t c =
    let l = c.fields in
    fields_end-next (value_at c.args.limit) c.args.count l.counter (option_map (λ s. s.now) l.last) l.rest.now c.in-Some.name.now c.in-Some.behind.now c.in-Some-value_end.after.now (end_of (fields_at (value_at c.args.limit) c.args.count None c.args.bytes.now)) c.fields-test.true (sym c.in-Some.ensures) (sym c.may_follow.ensures ∙ c.if-not-may_follow.false) c.in-Some-value_end.ensures l.invariant

pub fields_end-returns : goal.fields_end-returns
fields_end-returns t c =
    let l = c.fields in
    fields_end-done (value_at c.args.limit) c.args.count l.counter (option_map (λ s. s.now) l.last) l.rest.now (end_of (fields_at (value_at c.args.limit) c.args.count None c.args.bytes.now)) c.fields-test.false l.invariant
