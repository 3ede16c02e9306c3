use Rattle.std.proofs.Common.{◌≡◌, ℕ, ◌+◌, ◌≤◌, ◌∷◌, ◌++◌, List, Err, length, ap, subst, ◌∙◌, arith, rules}
use Rattle.std.proofs.lemmas.Result.{err_from_is_err_and}
use Rattle.std.specs.Int.{w32, to_be_bytes}
use Rattle.request_codec.specs.Tree.{Tree, list, map, members_of, fields_of}
use Rattle.request_codec.specs.inside.Build.{Named}
use Rattle.request_codec.specs.Answers.{spelled_length, members_length, fields_length}
use Rattle.request_codec.specs.Written.{Puts, text_spelling, spelling}
use Rattle.request_codec.proofs.Puts.{Puts-then, Puts-front}
use Rattle.request_codec.proofs.Parts.{members_left, fields_left, list_parts, map_parts, list_uncounted, map_uncounted, members_next, members_done, members_part, members_fewer, fields_next, fields_done, name_part, value_part, fields_fewer}
use Rattle.request_codec.proofs.value_writer.+writing.Goals as goal

-- ---- a list

pub put_value-returns-in_err-count-in-List : goal.put_value-returns-in_err-count-in-List
put_value-returns-in_err-count-in-List g t c =
    let p = err_from_is_err_and c.from_residual.result c.from_residual.ensures.1 in
    let vs = g.V.Shown.listed c.in-List.items in
    let old = c.args.out.now.items in
    let is : g.V.Shown.value c.args.value ≡ list (members_of vs) = c.in-List.ensures.value in
    rw (p.1, p.2, is) (list_uncounted c.in_err-count-in-List.field-0.0 c.args.limit old old vs c.in_err-count-in-List.ensures.0 (omega (arith, c.in_err-count-in-List.ensures.1, c.in-List.ensures.counted)))

pub put_value-returns-in_err-put_start-in-List : goal.put_value-returns-in_err-put_start-in-List
put_value-returns-in_err-put_start-in-List g t c =
    let q = c.from_residual-in_err-put_start-in-List in
    let p = err_from_is_err_and q.result q.ensures.1 in
    let vs = g.V.Shown.listed c.in-List.items in
    let n = c.in_ok-count-in-List.count in
    let same : n ≡ length vs = omega (arith, c.in_ok-count-in-List.ensures, c.in-List.ensures.counted) in
    let new = c.put_start-in-List.new.out.items in
    let is : g.V.Shown.value c.args.value ≡ list (members_of vs) = c.in-List.ensures.value in
    rw (p.1, p.2, is, list_parts vs n same) (Puts-front c.args.limit c.args.out.now.items new new (5 ∷ to_be_bytes w32 n) (members_left vs) c.in_err-put_start-in-List.field-0.0 c.in_err-put_start-in-List.ensures)

pub put_value-put_items-requires : goal.put_value-put_items-requires
put_value-put_items-requires g t c κs within =
    let vs = g.V.Shown.listed c.in-List.items in
    let is : g.V.Shown.value c.args.value ≡ list (members_of vs) = c.in-List.ensures.value in
    let long : spelled_length (g.V.Shown.value c.args.value) ≡ 5 + members_length (members_of vs) = ap spelled_length is in
    search rules

pub put_value-returns-in_ok-put_start-in-List : goal.put_value-returns-in_ok-put_start-in-List
put_value-returns-in_ok-put_start-in-List g t c =
    let vs = g.V.Shown.listed c.in-List.items in
    let n = c.in_ok-count-in-List.count in
    let same : n ≡ length vs = omega (arith, c.in_ok-count-in-List.ensures, c.in-List.ensures.counted) in
    let is : g.V.Shown.value c.args.value ≡ list (members_of vs) = c.in-List.ensures.value in
    rw (is, list_parts vs n same) (Puts-then c.args.limit c.args.out.now.items (5 ∷ to_be_bytes w32 n) c.put_start-in-List.new.out.items c.put_items.new.out.items (members_left vs) c.put_items.result c.in_ok-put_start-in-List.ensures.0 c.put_items.ensures)

pub put_items-put_value-requires : goal.put_items-put_value-requires
put_items-put_value-requires g t c κs within =
    let total = members_length (members_of (g.V.Shown.listed c.args.items)) in
    let smaller = (members_fewer (g.V.Shown.listed c.items.items) (g.V.Shown.value c.in-Some.item) (g.V.Shown.listed c.next_item.new.items) total c.in-Some.ensures c.items.invariant.fewer).0 in
    search rules

pub put_items-items-smaller : goal.put_items-items-smaller
put_items-items-smaller g t c = omega (arith, ap (λ (vs : List Tree). length vs) c.in-Some.ensures)

pub put_items-items-preserved : goal.put_items-items-preserved
put_items-items-preserved g t c =
    let l = c.items in
    let h = c.in_ok-put_value.ensures in
    let vs = g.V.Shown.listed l.items in
    let v = g.V.Shown.value c.in-Some.item in
    let rest = g.V.Shown.listed c.next_item.new.items in
    let all = g.V.Shown.listed c.args.items in
    record {
      within = h.1;
      fewer = (members_fewer vs v rest (members_length (members_of all)) c.in-Some.ensures l.invariant.fewer).1;
      whole = members_next l.out.items c.put_value.new.out.items (c.args.out.now.items ++ members_left all) vs v rest c.in-Some.ensures h.0 l.invariant.whole;
    }

pub put_items-returns-in_err-put_value : goal.put_items-returns-in_err-put_value
put_items-returns-in_err-put_value g t c =
    let p = err_from_is_err_and c.from_residual.result c.from_residual.ensures.1 in
    let l = c.items in
    let new = c.put_value.new.out.items in
    rw (p.1, p.2) (members_part c.args.limit l.out.items new new c.args.out.now.items (members_left (g.V.Shown.listed c.args.items)) (g.V.Shown.listed l.items) (g.V.Shown.value c.in-Some.item) (g.V.Shown.listed c.next_item.new.items) c.in_err-put_value.field-0.0 c.in-Some.ensures l.invariant.whole c.in_err-put_value.ensures)

pub put_items-returns : goal.put_items-returns
put_items-returns g t c =
    let l = c.items in
    (members_done l.out.items (c.args.out.now.items ++ members_left (g.V.Shown.listed c.args.items)) (g.V.Shown.listed l.items) c.in_default.ensures l.invariant.whole, l.invariant.within)

-- ---- a map

pub put_value-returns-in_err-count-in-Map : goal.put_value-returns-in_err-count-in-Map
put_value-returns-in_err-count-in-Map g t c =
    let q = c.from_residual-in_err-count-in-Map in
    let p = err_from_is_err_and q.result q.ensures.1 in
    let fs = g.V.Shown.named c.in-Map.fields in
    let old = c.args.out.now.items in
    let is : g.V.Shown.value c.args.value ≡ map (fields_of fs) = c.in-Map.ensures.value in
    rw (p.1, p.2, is) (map_uncounted c.in_err-count-in-Map.field-0.0 c.args.limit old old fs c.in_err-count-in-Map.ensures.0 (omega (arith, c.in_err-count-in-Map.ensures.1, c.in-Map.ensures.counted)))

pub put_value-returns-in_err-put_start-in-Map : goal.put_value-returns-in_err-put_start-in-Map
put_value-returns-in_err-put_start-in-Map g t c =
    let q = c.from_residual-in_err-put_start-in-Map in
    let p = err_from_is_err_and q.result q.ensures.1 in
    let fs = g.V.Shown.named c.in-Map.fields in
    let n = c.in_ok-count-in-Map.count in
    let same : n ≡ length fs = omega (arith, c.in_ok-count-in-Map.ensures, c.in-Map.ensures.counted) in
    let new = c.put_start-in-Map.new.out.items in
    let is : g.V.Shown.value c.args.value ≡ map (fields_of fs) = c.in-Map.ensures.value in
    rw (p.1, p.2, is, map_parts fs n same) (Puts-front c.args.limit c.args.out.now.items new new (6 ∷ to_be_bytes w32 n) (fields_left fs) c.in_err-put_start-in-Map.field-0.0 c.in_err-put_start-in-Map.ensures)

pub put_value-put_fields-requires : goal.put_value-put_fields-requires
put_value-put_fields-requires g t c κs within =
    let fs = g.V.Shown.named c.in-Map.fields in
    let is : g.V.Shown.value c.args.value ≡ map (fields_of fs) = c.in-Map.ensures.value in
    let long : spelled_length (g.V.Shown.value c.args.value) ≡ 5 + fields_length (fields_of fs) = ap spelled_length is in
    search rules

pub put_value-returns-in_ok-put_start-in-Map : goal.put_value-returns-in_ok-put_start-in-Map
put_value-returns-in_ok-put_start-in-Map g t c =
    let fs = g.V.Shown.named c.in-Map.fields in
    let n = c.in_ok-count-in-Map.count in
    let same : n ≡ length fs = omega (arith, c.in_ok-count-in-Map.ensures, c.in-Map.ensures.counted) in
    let is : g.V.Shown.value c.args.value ≡ map (fields_of fs) = c.in-Map.ensures.value in
    rw (is, map_parts fs n same) (Puts-then c.args.limit c.args.out.now.items (6 ∷ to_be_bytes w32 n) c.put_start-in-Map.new.out.items c.put_fields.new.out.items (fields_left fs) c.put_fields.result c.in_ok-put_start-in-Map.ensures.0 c.put_fields.ensures)

pub put_fields-put_value-requires : goal.put_fields-put_value-requires
put_fields-put_value-requires g t c κs within =
    let total = fields_length (fields_of (g.V.Shown.named c.args.fields)) in
    let fewer = (fields_fewer (g.V.Shown.named c.fields.fields) (g.V.Shown.parted c.in-Some.field) (g.V.Shown.named c.next_field.new.fields) total c.in-Some.ensures.next c.fields.invariant.fewer).0 in
    let smaller : spelled_length (g.V.Shown.value c.parts-value.result.1) ≤ total = omega (arith, fewer, ap spelled_length c.parts-value.ensures.value) in
    search rules

pub put_fields-fields-smaller : goal.put_fields-fields-smaller
put_fields-fields-smaller g t c = omega (arith, ap (λ (fs : List Named). length fs) c.in-Some.ensures.next)

pub put_fields-returns-in_err-put_text : goal.put_fields-returns-in_err-put_text
put_fields-returns-in_err-put_text g t c =
    let p = err_from_is_err_and c.from_residual.result c.from_residual.ensures.1 in
    let l = c.fields in
    let e = c.in_err-put_text.field-0.0 in
    let new = c.put_text.new.out.items in
    let at = subst (λ (s : List ℕ). Puts c.args.limit l.out.items new (Err e) (text_spelling s)) c.parts-value.ensures.name c.in_err-put_text.ensures in
    rw (p.1, p.2) (name_part c.args.limit l.out.items new new c.args.out.now.items (fields_left (g.V.Shown.named c.args.fields)) (g.V.Shown.named l.fields) (g.V.Shown.parted c.in-Some.field) (g.V.Shown.named c.next_field.new.fields) e c.in-Some.ensures.next l.invariant.whole at)

pub put_fields-returns-in_err-put_value : goal.put_fields-returns-in_err-put_value
put_fields-returns-in_err-put_value g t c =
    let q = c.from_residual-in_err-put_value in
    let p = err_from_is_err_and q.result q.ensures.1 in
    let l = c.fields in
    let e = c.in_err-put_value.field-0.0 in
    let mid = c.put_text.new.out.items in
    let new = c.put_value.new.out.items in
    let named : mid ≡ l.out.items ++ text_spelling (g.V.Shown.parted c.in-Some.field).0 = c.in_ok-put_text.ensures.0 ∙ ap (λ (s : List ℕ). l.out.items ++ text_spelling s) c.parts-value.ensures.name in
    let at = subst (λ (v : Tree). Puts c.args.limit mid new (Err e) (spelling v)) c.parts-value.ensures.value c.in_err-put_value.ensures in
    rw (p.1, p.2) (value_part c.args.limit l.out.items mid new new c.args.out.now.items (fields_left (g.V.Shown.named c.args.fields)) (g.V.Shown.named l.fields) (g.V.Shown.parted c.in-Some.field) (g.V.Shown.named c.next_field.new.fields) e c.in-Some.ensures.next named l.invariant.whole at)

pub put_fields-fields-preserved : goal.put_fields-fields-preserved
put_fields-fields-preserved g t c =
    let l = c.fields in
    let h = c.in_ok-put_value.ensures in
    let mid = c.put_text.new.out.items in
    let fs = g.V.Shown.named l.fields in
    let f = g.V.Shown.parted c.in-Some.field in
    let rest = g.V.Shown.named c.next_field.new.fields in
    let all = g.V.Shown.named c.args.fields in
    let named : mid ≡ l.out.items ++ text_spelling f.0 = c.in_ok-put_text.ensures.0 ∙ ap (λ (s : List ℕ). l.out.items ++ text_spelling s) c.parts-value.ensures.name in
    let put : c.put_value.new.out.items ≡ mid ++ spelling f.1 = h.0 ∙ ap (λ (v : Tree). mid ++ spelling v) c.parts-value.ensures.value in
    record {
      within = h.1;
      fewer = (fields_fewer fs f rest (fields_length (fields_of all)) c.in-Some.ensures.next l.invariant.fewer).1;
      whole = fields_next l.out.items mid c.put_value.new.out.items (c.args.out.now.items ++ fields_left all) fs f rest c.in-Some.ensures.next named put l.invariant.whole;
    }

pub put_fields-returns : goal.put_fields-returns
put_fields-returns g t c =
    let l = c.fields in
    (fields_done l.out.items (c.args.out.now.items ++ fields_left (g.V.Shown.named c.args.fields)) (g.V.Shown.named l.fields) c.in_default.ensures.next l.invariant.whole, l.invariant.within)
