use Rattle.std.proofs.Common.{◌≡◌, ◌-◌, ◌++◌, ◌∷◌, [], ℕ, List, length, pos, Some, None, w64, to_z, to_z-of_z, ap, sym, subst, ◌∙◌, arith}
use Rattle.std.proofs.lemmas.Int.{to_z_pos}
use Rattle.std.proofs.lemmas.List.{length-append}
use Rattle.json.specs.Json.{after_end_array, read_key}
use Rattle.json.specs.Token.{Token, begin_object}
use Rattle.json.specs.Reads.{token_of}
use Rattle.request_codec.specs.Written.{text_spelling, spelling}
use Rattle.request_codec.specs.Tree as tree
use Rattle.request_codec.specs.Json.{hex_of}
use Rattle.line_parser.specs.inside.Argument.{PutsValue}
use Rattle.line_parser.specs.inside.Fields.{field_spelling, AreBehind, members_of}
use Rattle.line_parser.proofs.ItemsRead.{items_start, items_next, items_stop}
use Rattle.line_parser.proofs.NoBytes.{none_told}
use Rattle.line_parser.proofs.FieldsRead.{begun, last_bytes, last_count, fields_start, fields_next, fields_stop}
use Rattle.line_parser.proofs.PutValues.{put_null, put_bool, put_string, put_number, put_other_number, put_list, put_map, put_bytes}
use Rattle.line_parser.proofs.Results.{on_ok, on_ok₂, on_ok₃}
use Rattle.line_parser.proofs.argument.+argument.Goals as goal

pub put_items-items-init : goal.put_items-items-init
put_items-items-init t c =
    let put = c.in_ok-put_start.ensures in
    record {
      so_far = items_start c.args.depth c.args.reader.now c.args.out.now.items c.put_start.new.out.items c.args.faults.now put.0 c.requires.noted;
      within = put.1;
      place = omega (arith, ap length put.0, length-append c.args.out.now.items (5 ∷ 0 ∷ 0 ∷ 0 ∷ 0 ∷ []), c.len-at.ensures);
      depth = λ i. c.args.depth;
    }

pub put_items-items-preserved : goal.put_items-items-preserved
put_items-items-preserved t c =
    let l = c.items in
    let going : (after_end_array l.reader ≡ None) × (c.take_end_array.new.self ≡ l.reader) = grind arith in
    let v = subst (λ ts. PutsValue c.args.depth ts c.put_value.new.reader l.out.items c.put_value.new.out.items l.faults c.put_value.new.faults) going.1 c.in_ok-put_value.ensures.value in
    record {
      so_far = items_next c.args.depth c.args.reader.now l.reader c.put_value.new.reader c.args.out.now.items l.out.items c.put_value.new.out.items l.count c.args.faults.now l.faults c.put_value.new.faults l.invariant.so_far going.0 v;
      within = c.in_ok-put_value.ensures.within;
      place = l.invariant.place;
      depth = l.invariant.depth;
    }

pub put_items-returns-clause-value : goal.put_items-returns-clause-value
put_items-returns-clause-value t c =
    let l = c.items in
    items_stop c.args.depth c.args.reader.now l.reader c.take_end_array.new.self c.args.out.now.items l.out.items c.set_count.new.out.items (c.len-at.result - 4) l.count c.args.faults.now l.faults l.invariant.so_far (grind arith) l.invariant.place c.set_count.ensures.bytes

pub put_fields-fields-init : goal.put_fields-fields-init
put_fields-fields-init t c =
    let put = c.in_ok-put_start.ensures in
    record {
      so_far = fields_start c.args.depth c.args.reader.now c.args.out.now.items c.put_start.new.out.items c.new-fields.result c.args.faults.now put.0 c.new-fields.ensures c.requires.noted;
      within = put.1;
      place = omega (arith, ap length put.0, length-append c.args.out.now.items (6 ∷ 0 ∷ 0 ∷ 0 ∷ 0 ∷ []), c.len-start.ensures);
      depth = λ i. c.args.depth;
    }

pub put_fields-add-requires : goal.put_fields-add-requires
put_fields-add-requires t c =
    let l = c.fields in
    let k = c.in-Some.name.now in
    let v = c.in_ok-put_value.ensures.value in
    let text : c.put_text.new.out.items ≡ l.out.items ++ text_spelling k = c.in_ok-put_text.ensures.0 ∙ ap (λ (s : List ℕ). l.out.items ++ text_spelling s) c.known.ensures.same in
    let all = last_bytes c.args.depth c.next_key.new.self c.put_value.new.reader l.out.items c.put_text.new.out.items c.put_value.new.out.items l.faults c.put_value.new.faults k text v in
    omega (arith, c.in_ok-put_value.ensures.within, c.requires.small, c.len-from.ensures, c.len.ensures, ap length all, length-append l.out.items (field_spelling k v.json))

pub put_fields-fields-preserved : goal.put_fields-fields-preserved
put_fields-fields-preserved t c =
    let l = c.fields in
    let f = l.invariant.so_far in
    let k = c.in-Some.name.now in
    let v = c.in_ok-put_value.ensures.value in
    let named : read_key l.reader ≡ Some (Some k, c.next_key.new.self) = grind arith in
    let text : c.put_text.new.out.items ≡ l.out.items ++ text_spelling k = c.in_ok-put_text.ensures.0 ∙ ap (λ (s : List ℕ). l.out.items ++ text_spelling s) c.known.ensures.same in
    let all = last_bytes c.args.depth c.next_key.new.self c.put_value.new.reader l.out.items c.put_text.new.out.items c.put_value.new.out.items l.faults c.put_value.new.faults k text v in
    let from : c.len-from.result ≡ length l.out.items = omega (arith, c.len-from.ensures) in
    let count = last_count l.out.items c.put_value.new.out.items k v.json c.len-from.result (c.len.result - c.len-from.result) all from (omega (arith, c.len.ensures)) in
    record {
      so_far = fields_next c.args.depth c.args.reader.now l.reader c.next_key.new.self c.put_value.new.reader c.args.out.now.items l.out.items c.put_text.new.out.items c.put_value.new.out.items l.fields c.add.new.self c.args.faults.now l.faults c.put_value.new.faults k c.len-from.result f named c.known.ensures.utf8 text v from (c.in_ok-add.ensures f.placed v.json f.holds count);
      within = c.in_ok-put_value.ensures.within;
      place = l.invariant.place;
      depth = l.invariant.depth;
    }

pub put_fields-sort-requires : goal.put_fields-sort-requires
put_fields-sort-requires t c =
    let l = c.fields in
    let f = l.invariant.so_far in
    (f.placed, begun c.args.out.now.items, f.holds, subst (λ n. AreBehind f.placed n (begun c.args.out.now.items) l.out.items) (sym l.invariant.place) f.put)

pub put_fields-returns-clause-value : goal.put_fields-returns-clause-value
put_fields-returns-clause-value t c =
    let l = c.fields in
    let f = l.invariant.so_far in
    let sorted = c.in_ok-sort.ensures.sorted f.placed (begun c.args.out.now.items) f.holds (subst (λ n. AreBehind f.placed n (begun c.args.out.now.items) l.out.items) (sym l.invariant.place) f.put) in
    let none = none_told (hex_of (members_of f.placed)) (c.is_hex.ensures f.placed f.holds) c.if-is_hex.false in
    fields_stop c.args.depth c.args.reader.now l.reader c.next_key.new.self c.args.out.now.items l.out.items c.sort.new.out.items c.set_count.new.out.items l.fields c.args.faults.now l.faults (c.len-start.result - 4) c.count-count.result f (grind arith) sorted (omega (arith, l.invariant.place)) (c.count-count.ensures f.placed f.holds) c.set_count.ensures.bytes none

pub put_value-returns-in-Some-clause-value : goal.put_value-returns-in-Some-clause-value
put_value-returns-in-Some-clause-value t c =
    let found = c.in-Some.ensures in
    let is : to_z w64 c.in-Some.n ≡ pos c.in-Some.n = to_z_pos w64 c.in-Some.n found.fits in
    put_number c.args.depth c.args.reader.now c.take_natural.new.self c.args.out.now.items c.put_start.new.out.items found.text c.args.faults.now c.note_depth.new.faults (pos c.in-Some.n) c.note_depth.ensures found.token (record { read = found.read; fits = record { sfits = found.fits } })
    (c.in_ok-put_start.ensures.0 ∙ ap (λ i. c.args.out.now.items ++ spelling (tree.integer i)) is)

pub put_value-returns-in_ok-put_start-in-Null-clause-value : goal.put_value-returns-in_ok-put_start-in-Null-clause-value
put_value-returns-in_ok-put_start-in-Null-clause-value t c =
    let first : c.args.reader.now ≡ token_of c.in_ok-token.token ∷ c.next.new.self = grind arith in
    put_null c.args.depth c.args.reader.now c.next.new.self c.args.out.now.items c.put_start-in-Null.new.out.items c.args.faults.now c.note_depth.new.faults c.note_depth.ensures (first ∙ ap (λ k. token_of k ∷ c.next.new.self) c.in-Null.is) c.in_ok-put_start-in-Null.ensures.0

pub put_value-returns-in_ok-put_start-in-Bool-clause-value : goal.put_value-returns-in_ok-put_start-in-Bool-clause-value
put_value-returns-in_ok-put_start-in-Bool-clause-value t c =
    let first : c.args.reader.now ≡ token_of c.in_ok-token.token ∷ c.next.new.self = grind arith in
    put_bool c.args.depth c.args.reader.now c.next.new.self c.args.out.now.items c.put_start-in-Bool.new.out.items c.args.faults.now c.note_depth.new.faults c.in-Bool.b c.note_depth.ensures (first ∙ ap (λ k. token_of k ∷ c.next.new.self) c.in-Bool.is) c.in_ok-put_start-in-Bool.ensures.0

pub put_value-returns-in_ok-put_start-in-Some-whole_number-clause-value : goal.put_value-returns-in_ok-put_start-in-Some-whole_number-clause-value
put_value-returns-in_ok-put_start-in-Some-whole_number-clause-value t c =
    let first : c.args.reader.now ≡ token_of c.in_ok-token.token ∷ c.next.new.self = grind arith in
    let is = to_z-of_z c.in-Some-whole_number.ensures.fits in
    put_number c.args.depth c.args.reader.now c.next.new.self c.args.out.now.items c.put_start-in-Some-whole_number.new.out.items c.in-Number.text.now c.args.faults.now c.note_depth.new.faults c.in-Some-whole_number.number c.note_depth.ensures (first ∙ ap (λ k. token_of k ∷ c.next.new.self) c.in-Number.is) c.in-Some-whole_number.ensures
    (c.in_ok-put_start-in-Some-whole_number.ensures.0 ∙ ap (λ i. c.args.out.now.items ++ spelling (tree.integer i)) is)

pub put_value-returns-in-None-clause-value : goal.put_value-returns-in-None-clause-value
put_value-returns-in-None-clause-value t c =
    let first : c.args.reader.now ≡ token_of c.in_ok-token.token ∷ c.next.new.self = grind arith in
    let put = c.put_not_whole.ensures in
    on_ok₃ c.put_not_whole.result put.number put.bytes put.faults
    (put_other_number c.args.depth c.args.reader.now c.next.new.self c.args.out.now.items c.put_not_whole.new.out.items c.in-Number.text.now c.args.faults.now c.note_depth.new.faults c.put_not_whole.new.faults c.note_depth.ensures (first ∙ ap (λ k. token_of k ∷ c.next.new.self) c.in-Number.is))

pub put_value-returns-in_ok-put_start-in-String-clause-value : goal.put_value-returns-in_ok-put_start-in-String-clause-value
put_value-returns-in_ok-put_start-in-String-clause-value t c =
    let first : c.args.reader.now ≡ token_of c.in_ok-token.token ∷ c.next.new.self = grind arith in
    put_string c.args.depth c.args.reader.now c.next.new.self c.args.out.now.items c.put_start-in-String.new.out.items c.args.faults.now c.note_depth.new.faults c.in-String.text.now c.note_depth.ensures (first ∙ ap (λ k. token_of k ∷ c.next.new.self) c.in-String.is) c.known.ensures.utf8 (c.in_ok-put_start-in-String.ensures.0 ∙ ap (λ (s : List ℕ). c.args.out.now.items ++ spelling (tree.text s)) c.known.ensures.same)

pub put_value-returns-in-BeginArray-clause-value : goal.put_value-returns-in-BeginArray-clause-value
put_value-returns-in-BeginArray-clause-value t c =
    let first : c.args.reader.now ≡ token_of c.in_ok-token.token ∷ c.next.new.self = grind arith in
    on_ok c.put_items.result c.put_items.ensures.value
    (put_list c.args.depth c.args.reader.now c.next.new.self c.put_items.new.reader c.args.out.now.items c.put_items.new.out.items c.args.faults.now c.note_depth.new.faults c.put_items.new.faults (omega arith) c.note_depth.ensures (first ∙ ap (λ k. token_of k ∷ c.next.new.self) c.in-BeginArray.is))

pub put_value-returns-in-Some-take_hex-clause-value : goal.put_value-returns-in-Some-take_hex-clause-value
put_value-returns-in-Some-take_hex-clause-value t c =
    let first : c.args.reader.now ≡ token_of c.in_ok-token.token ∷ c.next.new.self = grind arith in
    let put = c.put_hex.ensures in
    on_ok₂ c.put_hex.result put.hex put.bytes
    (put_bytes c.args.depth c.args.reader.now c.next.new.self c.take_hex.new.self c.args.out.now.items c.put_hex.new.out.items c.args.faults.now c.note_depth.new.faults c.in-Some-take_hex.digits.now (omega arith) c.note_depth.ensures (first ∙ ap (λ k. token_of k ∷ c.next.new.self) c.in-BeginObject.is) c.in-Some-take_hex.ensures)

pub put_value-returns-in-None-take_hex-clause-value : goal.put_value-returns-in-None-take_hex-clause-value
put_value-returns-in-None-take_hex-clause-value t c =
    let first : c.args.reader.now ≡ token_of c.in_ok-token.token ∷ c.next.new.self = grind arith in
    let begun = first ∙ ap (λ k. token_of k ∷ c.next.new.self) c.in-BeginObject.is ∙ ap (λ (ts : List Token). begin_object ∷ ts) (sym c.in-None-take_hex.ensures) in
    on_ok c.put_fields.result c.put_fields.ensures.value
    (put_map c.args.depth c.args.reader.now c.take_hex.new.self c.put_fields.new.reader c.args.out.now.items c.put_fields.new.out.items c.args.faults.now c.note_depth.new.faults c.put_fields.new.faults (omega arith) c.note_depth.ensures begun)
