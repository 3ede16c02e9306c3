use Rattle.std.proofs.Common.{◌-◌, ◌<◌, string_bytes, ◌++◌, ◌∙◌, sym, ap, None, option_map, refl, arith, ℤ}
use Rattle.std.specs.Fmt.{signed_decimal}
use Rattle.std.proofs.lemmas.Result.{err_from_is_err_and}
use Rattle.std.proofs.lemmas.Int.{to_z-of_z}
use Rattle.request_codec.specs.Tree as tree
use Rattle.request_codec.specs.Tree.{null, truth, integer, text, list, map}
use Rattle.request_codec.specs.Reading.{value_at, members_at, fields_at}
use Rattle.request_codec.specs.Start.{begun}
use Rattle.request_codec.proofs.Levels.{value_at-zero, value_at-unstarted, started, value_at-list, value_at-map, value_at-no_list, value_at-no_map}
use Rattle.request_codec.proofs.MemberLoops.{members-end, fields-unnamed, fields-misplaced, fields-end}
use Rattle.line_text.proofs.ValueTexts.{leaf_added, members_start, members_next, members_stop, fields_start, fields_next, fields_stop, none-whole}
use Rattle.line_text.proofs.value_text.+printing.Goals as goal
use Rattle.line_text.proofs.value_text.+printing.Goals.{push_value-in-Null+in_ok-push-in-Null, push_value-in-Bool+in_ok-push_truth-in-Bool, push_value-in-Int+in_ok-push_whole-in-Int, push_value-in-Text+in_ok-push_quoted-in-Text, push_value-in-Bytes+in_ok-push_bytes-in-Bytes}

-- ---- one value

pub push_value-returns-then-limit-eq0-clause-err : goal.push_value-returns-then-limit-eq0-clause-err
push_value-returns-then-limit-eq0-clause-err t c = value_at-zero c.args.limit c.args.bytes.now (omega arith)

pub push_value-returns-in_default-clause-err : goal.push_value-returns-in_default-clause-err
push_value-returns-in_default-clause-err t c = value_at-unstarted c.args.limit c.args.bytes.now (sym c.in_default.ensures)

pub push_value-returns-in_err-rest-in-List-clause-err : goal.push_value-returns-in_err-rest-in-List-clause-err
push_value-returns-in_err-rest-in-List-clause-err t c =
    let p = err_from_is_err_and c.from_residual-in_err-rest-in-List.result c.from_residual-in_err-rest-in-List.ensures.1 in
    rw (p.1, p.2) (none-whole c.in_err-rest-in-List.field-0.0 (members_at (value_at (c.args.limit - 1)) c.in-List.count c.in-Some.rest.now) (value_at c.args.limit c.args.bytes.now) (value_at-no_list c.args.limit c.args.bytes.now c.in-List.count c.in-Some.rest.now (omega arith) (started c.in-Some.ensures (ap begun c.in-List.is))) c.in_err-rest-in-List.ensures.err)

pub push_value-returns-in-List-clause-ok : goal.push_value-returns-in-List-clause-ok
push_value-returns-in-List-clause-ok t c =
    let m = c.in_ok-rest-in-List.ensures.ok in
    record {
      v = list m.vs;
      read = value_at-list c.args.limit c.args.bytes.now c.in-List.count c.in-Some.rest.now m.vs (list m.vs) c.in_ok-rest-in-List.rest.now (omega arith) (started c.in-Some.ensures (ap begun c.in-List.is)) m.read refl;
      added = m.added;
    }

pub push_value-returns-in_err-rest-in-Map-clause-err : goal.push_value-returns-in_err-rest-in-Map-clause-err
push_value-returns-in_err-rest-in-Map-clause-err t c =
    let p = err_from_is_err_and c.from_residual-in_err-rest-in-Map.result c.from_residual-in_err-rest-in-Map.ensures.1 in
    rw (p.1, p.2) (none-whole c.in_err-rest-in-Map.field-0.0 (fields_at (value_at (c.args.limit - 1)) c.in-Map.count None c.in-Some.rest.now) (value_at c.args.limit c.args.bytes.now) (value_at-no_map c.args.limit c.args.bytes.now c.in-Map.count c.in-Some.rest.now (omega arith) (started c.in-Some.ensures (ap begun c.in-Map.is))) c.in_err-rest-in-Map.ensures.err)

pub push_value-returns-in-Map-clause-ok : goal.push_value-returns-in-Map-clause-ok
push_value-returns-in-Map-clause-ok t c =
    let m = c.in_ok-rest-in-Map.ensures.ok in
    record {
      v = map m.fs;
      read = value_at-map c.args.limit c.args.bytes.now c.in-Map.count c.in-Some.rest.now m.fs (map m.fs) c.in_ok-rest-in-Map.rest.now (omega arith) (started c.in-Some.ensures (ap begun c.in-Map.is)) m.read refl;
      added = m.added;
    }

pub push_value-returns-clause-ok : goal.push_value-returns-clause-ok
push_value-returns-clause-ok t c =
    let added = leaf_added c.args.limit c.args.bytes.now in
    let rest = c.in-Some.rest.now in
    let old = string_bytes c.args.text.now in
    let new = string_bytes c.match-start.text in
    let some : 0 < c.args.limit = omega arith in
    elim c.match-start.branch [
      | push_value-in-Null+in_ok-push-in-Null w ↦ added null rest old new some (started c.in-Some.ensures (ap begun w.in-Null.is)) (ap string_bytes w.text-is ∙ w.in_ok-push-in-Null.ensures)
      | push_value-in-Bool+in_ok-push_truth-in-Bool w ↦ added (truth w.in-Bool.b) rest old new some (started c.in-Some.ensures (ap begun w.in-Bool.is)) (ap string_bytes w.text-is ∙ w.in_ok-push_truth-in-Bool.ensures)
      | push_value-in-Int+in_ok-push_whole-in-Int w ↦ added (integer w.in-Int.n) rest old new some (started c.in-Some.ensures (ap begun w.in-Int.is)) (ap string_bytes w.text-is ∙ w.in_ok-push_whole-in-Int.ensures ∙ ap (λ (i : ℤ). old ++ signed_decimal i) (grind (arith, to_z-of_z)))
      | push_value-in-Text+in_ok-push_quoted-in-Text w ↦ added (text w.in-Text.part.now) rest old new some (started c.in-Some.ensures (ap begun w.in-Text.is)) (ap string_bytes w.text-is ∙ w.in_ok-push_quoted-in-Text.ensures)
      | push_value-in-Bytes+in_ok-push_bytes-in-Bytes w ↦ added (tree.bytes w.in-Bytes.part.now) rest old new some (started c.in-Some.ensures (ap begun w.in-Bytes.is)) (ap string_bytes w.text-is ∙ w.in_ok-push_bytes-in-Bytes.ensures)
    ]

-- ---- the members of a list

pub push_members-items-init : goal.push_members-items-init
push_members-items-init t c = members_start (value_at c.args.limit) c.args.count c.args.bytes.now (string_bytes c.args.text.now) (string_bytes c.push.new.text) c.in_ok-push.ensures

pub push_members-returns-in_err-rest-clause-err : goal.push_members-returns-in_err-rest-clause-err
push_members-returns-in_err-rest-clause-err t c =
    let l = c.items in
    let p = err_from_is_err_and c.from_residual-in_err-rest.result c.from_residual-in_err-rest.ensures.1 in
    let total = members_at (value_at c.args.limit) c.args.count c.args.bytes.now in
    rw (p.1, p.2) (none-whole c.in_err-rest.field-0.0 (value_at c.args.limit l.rest.now) total (members-end (value_at c.args.limit) l.invariant.front c.args.count l.counter l.rest.now total c.items-test.true l.invariant.so_far) c.in_err-rest.ensures.err)

pub push_members-items-preserved : goal.push_members-items-preserved
push_members-items-preserved t c =
    let l = c.items in
    members_next (value_at c.args.limit) c.args.count l.counter c.args.bytes.now l.rest.now c.in_ok-rest.rest.now (string_bytes c.args.text.now) (string_bytes l.text) (string_bytes c.push-in-items.new.text) (string_bytes c.push_value.new.text) l.comma.now l.invariant c.items-test.true c.in_ok-push-2.ensures c.in_ok-rest.ensures.ok

pub push_members-returns-clause-ok : goal.push_members-returns-clause-ok
push_members-returns-clause-ok t c =
    let l = c.items in
    members_stop (value_at c.args.limit) c.args.count l.counter c.args.bytes.now l.rest.now (string_bytes c.args.text.now) (string_bytes l.text) (string_bytes c.push-2.new.text) l.comma.now l.invariant c.items-test.false c.in_ok-push-3.ensures

-- ---- the fields of a map

pub push_fields-fields-init : goal.push_fields-fields-init
push_fields-fields-init t c = fields_start (value_at c.args.limit) c.args.count c.args.bytes.now (string_bytes c.args.text.now) (string_bytes c.push.new.text) c.in_ok-push.ensures

pub push_fields-returns-in_default-clause-err : goal.push_fields-returns-in_default-clause-err
push_fields-returns-in_default-clause-err t c =
    let l = c.fields in
    fields-unnamed (value_at c.args.limit) l.invariant.front c.args.count l.counter (option_map (λ s. s.now) l.last) l.rest.now (fields_at (value_at c.args.limit) c.args.count None c.args.bytes.now) c.fields-test.true (sym c.in_default.ensures) l.invariant.so_far

pub push_fields-returns-then-not-may_follow-clause-err : goal.push_fields-returns-then-not-may_follow-clause-err
push_fields-returns-then-not-may_follow-clause-err t c =
    let l = c.fields in
    fields-misplaced (value_at c.args.limit) l.invariant.front c.args.count l.counter (option_map (λ s. s.now) l.last) l.rest.now c.in-Some.name.now c.in-Some.behind.now (fields_at (value_at c.args.limit) c.args.count None c.args.bytes.now) c.fields-test.true (sym c.in-Some.ensures) (sym c.may_follow.ensures ∙ c.if-not-may_follow.true) l.invariant.so_far

pub push_fields-returns-in_err-rest-clause-err : goal.push_fields-returns-in_err-rest-clause-err
push_fields-returns-in_err-rest-clause-err t c =
    let l = c.fields in
    let p = err_from_is_err_and c.from_residual-in_err-rest.result c.from_residual-in_err-rest.ensures.1 in
    let total = fields_at (value_at c.args.limit) c.args.count None c.args.bytes.now in
    rw (p.1, p.2) (none-whole c.in_err-rest.field-0.0 (value_at c.args.limit c.in-Some.behind.now) total (fields-end (value_at c.args.limit) l.invariant.front c.args.count l.counter (option_map (λ s. s.now) l.last) l.rest.now c.in-Some.name.now c.in-Some.behind.now total c.fields-test.true (sym c.in-Some.ensures) (sym c.may_follow.ensures ∙ c.if-not-may_follow.false) l.invariant.so_far) c.in_err-rest.ensures.err)

pub push_fields-fields-preserved : goal.push_fields-fields-preserved
push_fields-fields-preserved t c =
    let l = c.fields in
    fields_next (value_at c.args.limit) c.args.count l.counter (option_map (λ s. s.now) l.last) c.args.bytes.now l.rest.now c.in-Some.name.now c.in-Some.behind.now c.in_ok-rest.rest.now (string_bytes c.args.text.now) (string_bytes l.text) (string_bytes c.push-in-fields.new.text) (string_bytes c.push_quoted.new.text) (string_bytes c.push-in-fields-2.new.text) (string_bytes c.push_value.new.text) l.comma.now
    l.invariant c.fields-test.true (sym c.in-Some.ensures) (sym c.may_follow.ensures ∙ c.if-not-may_follow.false) c.in_ok-push-2.ensures c.in_ok-push_quoted.ensures c.in_ok-push-3.ensures c.in_ok-rest.ensures.ok

pub push_fields-returns-clause-ok : goal.push_fields-returns-clause-ok
push_fields-returns-clause-ok t c =
    let l = c.fields in
    fields_stop (value_at c.args.limit) c.args.count l.counter (option_map (λ s. s.now) l.last) c.args.bytes.now l.rest.now (string_bytes c.args.text.now) (string_bytes l.text) (string_bytes c.push-2.new.text) l.comma.now l.invariant c.fields-test.false c.in_ok-push-4.ensures
