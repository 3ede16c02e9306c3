use Rattle.std.proofs.Common.{◌≡◌, ◌-◌, ◌∙◌, sym, ap, None, option_map, arith}
use Rattle.std.proofs.lemmas.Result.{err_from_is_err_and}
use Rattle.std.proofs.lemmas.Int.{to_z-of_z}
use mir.Val.{to_z, of_z}
use mir.Syntax.{w64}
use Rattle.request_codec.specs.Tree as tree
use Rattle.request_codec.specs.Tree.{null, truth, integer, text, members_of, fields_of}
use Rattle.request_codec.specs.Reading.{value_at, members_at, fields_at}
use Rattle.request_codec.specs.Start.{begun}
use Rattle.request_codec.proofs.PartAnswers.{Fails-whole}
use Rattle.request_codec.proofs.Levels.{value_at-zero, value_at-unstarted, started, value_at-leaf, value_at-list, value_at-map, value_at-no_list, value_at-no_map}
use Rattle.request_codec.proofs.MemberLoops.{members-go_on, members-end, members-done, fields-go_on, fields-unnamed, fields-misplaced, fields-end, fields-done}
use Rattle.request_codec.proofs.Builds.{below_next}
use Rattle.request_codec.proofs.value_reader.+reading.Goals as goal

-- ---- one node

pub read_value-returns-then-limit-eq0 : goal.read_value-returns-then-limit-eq0
read_value-returns-then-limit-eq0 g t c = value_at-zero c.args.limit c.args.bytes.now (omega arith)

pub read_value-returns-in_default : goal.read_value-returns-in_default
read_value-returns-in_default g t c = value_at-unstarted c.args.limit c.args.bytes.now (sym c.in_default.ensures)

pub read_value-returns-in-Null : goal.read_value-returns-in-Null
read_value-returns-in-Null g t c = value_at-leaf c.args.limit c.args.bytes.now null _ c.in-Some.rest.now (omega arith) (started c.in-Some.ensures (ap begun c.in-Null.is)) c.null.ensures

pub read_value-returns-in-Bool : goal.read_value-returns-in-Bool
read_value-returns-in-Bool g t c = value_at-leaf c.args.limit c.args.bytes.now (truth c.in-Bool.b) _ c.in-Some.rest.now (omega arith) (started c.in-Some.ensures (ap begun c.in-Bool.is)) c.truth.ensures

pub read_value-returns-in-Int : goal.read_value-returns-in-Int
read_value-returns-in-Int g t c =
    let same : to_z w64 (of_z w64 c.in-Int.n) ≡ c.in-Int.n = grind (arith, to_z-of_z) in
    value_at-leaf c.args.limit c.args.bytes.now (integer c.in-Int.n) _ c.in-Some.rest.now (omega arith) (started c.in-Some.ensures (ap begun c.in-Int.is)) (c.integer.ensures ∙ ap integer same)

pub read_value-returns-in_ok-text-in-Text : goal.read_value-returns-in_ok-text-in-Text
read_value-returns-in_ok-text-in-Text g t c = value_at-leaf c.args.limit c.args.bytes.now (text c.in-Text.text.now) _ c.in-Some.rest.now (omega arith) (started c.in-Some.ensures (ap begun c.in-Text.is)) c.in_ok-text-in-Text.ensures

pub read_value-returns-in_ok-bytes-in-Bytes : goal.read_value-returns-in_ok-bytes-in-Bytes
read_value-returns-in_ok-bytes-in-Bytes g t c = value_at-leaf c.args.limit c.args.bytes.now (tree.bytes c.in-Bytes.bytes.now) _ c.in-Some.rest.now (omega arith) (started c.in-Some.ensures (ap begun c.in-Bytes.is)) c.in_ok-bytes-in-Bytes.ensures

pub read_value-returns-in_ok-items-in-List : goal.read_value-returns-in_ok-items-in-List
read_value-returns-in_ok-items-in-List g t c =
    let done = c.in_ok-items-in-List in
    value_at-list c.args.limit c.args.bytes.now c.in-List.count c.in-Some.rest.now (members_of (g.B.Builder.listed done.items)) _ done.rest.now (omega arith) (started c.in-Some.ensures (ap begun c.in-List.is)) done.ensures c.list.ensures

pub read_value-returns-in_ok-fields-in-Map : goal.read_value-returns-in_ok-fields-in-Map
read_value-returns-in_ok-fields-in-Map g t c =
    let done = c.in_ok-fields-in-Map in
    value_at-map c.args.limit c.args.bytes.now c.in-Map.count c.in-Some.rest.now (fields_of (g.B.Builder.named done.fields)) _ done.rest.now (omega arith) (started c.in-Some.ensures (ap begun c.in-Map.is)) done.ensures c.map.ensures

pub read_value-returns-in_err-items-in-List : goal.read_value-returns-in_err-items-in-List
read_value-returns-in_err-items-in-List g t c =
    let p = err_from_is_err_and c.from_residual-in_err-items-in-List.result c.from_residual-in_err-items-in-List.ensures.1 in
    rw (p.1, p.2) (Fails-whole c.in_err-items-in-List.field-0.0 (members_at (value_at (c.args.limit - 1)) c.in-List.count c.in-Some.rest.now) (value_at c.args.limit c.args.bytes.now) (value_at-no_list c.args.limit c.args.bytes.now c.in-List.count c.in-Some.rest.now (omega arith) (started c.in-Some.ensures (ap begun c.in-List.is))) c.in_err-items-in-List.ensures)

pub read_value-returns-in_err-fields-in-Map : goal.read_value-returns-in_err-fields-in-Map
read_value-returns-in_err-fields-in-Map g t c =
    let p = err_from_is_err_and c.from_residual-in_err-fields-in-Map.result c.from_residual-in_err-fields-in-Map.ensures.1 in
    rw (p.1, p.2) (Fails-whole c.in_err-fields-in-Map.field-0.0 (fields_at (value_at (c.args.limit - 1)) c.in-Map.count None c.in-Some.rest.now) (value_at c.args.limit c.args.bytes.now) (value_at-no_map c.args.limit c.args.bytes.now c.in-Map.count c.in-Some.rest.now (omega arith) (started c.in-Some.ensures (ap begun c.in-Map.is))) c.in_err-fields-in-Map.ensures)

-- ---- the members of a list

pub read_items-returns-in_err-item : goal.read_items-returns-in_err-item
read_items-returns-in_err-item g t c =
    let p = err_from_is_err_and c.from_residual.result c.from_residual.ensures.1 in
    rw (p.1, p.2) (Fails-whole c.in_err-item.field-0.0 (value_at c.args.limit c.items.rest.now) (members_at (value_at c.args.limit) c.args.count c.args.bytes.now) (members-end (value_at c.args.limit) (g.B.Builder.listed c.items.items) c.args.count c.items.counter c.items.rest.now (members_at (value_at c.args.limit) c.args.count c.args.bytes.now) c.items-test.true c.items.invariant) c.in_err-item.ensures)

pub read_items-items-preserved : goal.read_items-items-preserved
read_items-items-preserved g t c =
    rw c.in_ok-push.ensures (members-go_on (value_at c.args.limit) (g.B.Builder.listed c.items.items) c.args.count c.items.counter c.items.rest.now (g.B.Builder.made c.in_ok-item.item) c.in_ok-item.after.now (members_at (value_at c.args.limit) c.args.count c.args.bytes.now) c.items-test.true c.in_ok-item.ensures c.items.invariant)

pub read_items-returns : goal.read_items-returns
read_items-returns g t c =
    members-done (value_at c.args.limit) (g.B.Builder.listed c.items.items) c.args.count c.items.counter c.items.rest.now (members_at (value_at c.args.limit) c.args.count c.args.bytes.now) c.items-test.false c.items.invariant

-- ---- the members of a map

pub read_fields-returns-in_default : goal.read_fields-returns-in_default
read_fields-returns-in_default g t c =
    let l = c.fields in
    fields-unnamed (value_at c.args.limit) (g.B.Builder.named l.fields) c.args.count l.counter (option_map (λ s. s.now) l.last) l.rest.now (fields_at (value_at c.args.limit) c.args.count None c.args.bytes.now) c.fields-test.true (sym c.in_default.ensures) l.invariant.so_far

pub read_fields-returns-then-not-may_follow : goal.read_fields-returns-then-not-may_follow
read_fields-returns-then-not-may_follow g t c =
    let l = c.fields in
    fields-misplaced (value_at c.args.limit) (g.B.Builder.named l.fields) c.args.count l.counter (option_map (λ s. s.now) l.last) l.rest.now c.in-Some.name.now c.in-Some.after_name.now (fields_at (value_at c.args.limit) c.args.count None c.args.bytes.now) c.fields-test.true (sym c.in-Some.ensures) (sym c.may_follow.ensures ∙ c.if-not-may_follow.true) l.invariant.so_far

pub read_fields-returns-in_err-field : goal.read_fields-returns-in_err-field
read_fields-returns-in_err-field g t c =
    let l = c.fields in
    let p = err_from_is_err_and c.from_residual.result c.from_residual.ensures.1 in
    rw (p.1, p.2) (Fails-whole c.in_err-field.field-0.0 (value_at c.args.limit c.in-Some.after_name.now) (fields_at (value_at c.args.limit) c.args.count None c.args.bytes.now) (fields-end (value_at c.args.limit) (g.B.Builder.named l.fields) c.args.count l.counter (option_map (λ s. s.now) l.last) l.rest.now c.in-Some.name.now c.in-Some.after_name.now (fields_at (value_at c.args.limit) c.args.count None c.args.bytes.now) c.fields-test.true (sym c.in-Some.ensures) (sym c.may_follow.ensures ∙ c.if-not-may_follow.false) l.invariant.so_far) c.in_err-field.ensures)

pub read_fields-fields-preserved : goal.read_fields-fields-preserved
read_fields-fields-preserved g t c =
    let l = c.fields in
    let name = c.in-Some.name.now in
    let made = g.B.Builder.made c.in_ok-field.field in
    let named = g.B.Builder.named l.fields in
    let later = sym c.may_follow.ensures ∙ c.if-not-may_follow.false in
    record {
      below = rw c.in_ok-add.ensures (below_next named (name, made) (l.invariant.below name later));
      so_far = rw c.in_ok-add.ensures (fields-go_on (value_at c.args.limit) named c.args.count l.counter (option_map (λ s. s.now) l.last) l.rest.now name c.in-Some.after_name.now made c.in_ok-field.after.now (fields_at (value_at c.args.limit) c.args.count None c.args.bytes.now) c.fields-test.true (sym c.in-Some.ensures) later c.in_ok-field.ensures l.invariant.so_far);
    }

pub read_fields-add-requires : goal.read_fields-add-requires
read_fields-add-requires g t c =
    let l = c.fields in
    l.invariant.below c.in-Some.name.now (sym c.may_follow.ensures ∙ c.if-not-may_follow.false)

pub read_fields-returns : goal.read_fields-returns
read_fields-returns g t c =
    let l = c.fields in
    fields-done (value_at c.args.limit) (g.B.Builder.named l.fields) c.args.count l.counter (option_map (λ s. s.now) l.last) l.rest.now (fields_at (value_at c.args.limit) c.args.count None c.args.bytes.now) c.fields-test.false l.invariant.so_far
