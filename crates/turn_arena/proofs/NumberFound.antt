-- Where a map of one field with a whole number stands, it is found.
use Rattle.std.proofs.Common.{arith, ◌≡◌, ℕ, suc, zero, ◌-◌, ◌<◌, Bool, true, false, List, [], ◌∷◌, Option, Some, None, refl, sym, ap, ◌∙◌}
use Rattle.std.specs.Prelude.{ℤ, IsSome, if◌then◌else◌}
use Rattle.std.specs.Int.{w32, w64, cast_signed}
use Rattle.std.proofs.lemmas.Option.{same_Some}
use Rattle.request_codec.specs.Call.{Call, asks}
use Rattle.request_codec.specs.Reading.{Parse, ◌>>=◌, number_at, bytes_at, text_at, members_at, fields_at, value_at, is_above}
use Rattle.request_codec.specs.Start.{Begun, leaf, list_of, map_of, start_at, count_at, value_behind}
use Rattle.request_codec.specs.Tree as tree
use Rattle.request_codec.specs.Tree.{Tree, null, truth, integer, text, list, Members, Fields, field, no_fields}
use Rattle.request_codec.proofs.Levels.{value_at-unstarted, value_at-started}

-- ---- what was read, and the bytes after it

module _ {A : Type 0} (x y : A) (r s : List ℕ) (e : ◌≡◌ {A = Option (A × List ℕ)} (Some (x, r)) (Some (y, s))) where
  same_read : x ≡ y
  same_read = ap (λ (p : A × List ℕ). p.0) (same_Some (x, r) (y, s) e)

  same_after : r ≡ s
  same_after = ap (λ (p : A × List ℕ). p.1) (same_Some (x, r) (y, s) e)

abbrev seen_as : {A B : Type 0} → (A → B) → A × List ℕ → Option (B × List ℕ)
seen_as shown x = Some (shown x.0, x.1)

no_other : {A B : Type 0} (o : Option (A × List ℕ)) (shown : A → B) (y : B) (rest : List ℕ)
    → ((a : A) → shown a ≡ y → ⊥) → (o >>= seen_as shown) ≡ Some (y, rest) → ⊥
no_other None shown y rest other e = cc (e)
no_other (Some (a, r)) shown y rest other e = other a (same_read (shown a) y r rest e)

-- ---- a start

leaf_is_no_map : (bytes : List ℕ) (fs : Fields) (rest : List ℕ) → start_at bytes ≡ Some (leaf (tree.map fs), rest) → ⊥
unfolding start_at
leaf_is_no_map [] fs rest e = cc (e)
leaf_is_no_map (zero ∷ b) fs rest e = cc (same_read (leaf null) (leaf (tree.map fs)) b rest e)
leaf_is_no_map (suc zero ∷ b) fs rest e = cc (same_read (leaf (truth false)) (leaf (tree.map fs)) b rest e)
leaf_is_no_map (suc (suc zero) ∷ b) fs rest e = cc (same_read (leaf (truth true)) (leaf (tree.map fs)) b rest e)
leaf_is_no_map (suc (suc (suc zero)) ∷ b) fs rest e = no_other (number_at w64 b) (λ n. leaf (integer (cast_signed w64 n))) (leaf (tree.map fs)) rest (λ a h. cc (h)) e
leaf_is_no_map (suc (suc (suc (suc zero))) ∷ b) fs rest e = no_other (text_at b) (λ s. leaf (text s)) (leaf (tree.map fs)) rest (λ a h. cc (h)) e
leaf_is_no_map (suc (suc (suc (suc (suc zero)))) ∷ b) fs rest e = no_other (count_at b) list_of (leaf (tree.map fs)) rest (λ a h. cc (h)) e
leaf_is_no_map (suc (suc (suc (suc (suc (suc zero))))) ∷ b) fs rest e = no_other (count_at b) map_of (leaf (tree.map fs)) rest (λ a h. cc (h)) e
leaf_is_no_map (suc (suc (suc (suc (suc (suc (suc zero)))))) ∷ b) fs rest e = no_other (bytes_at b) (λ s. leaf (tree.bytes s)) (leaf (tree.map fs)) rest (λ a h. cc (h)) e
leaf_is_no_map (suc (suc (suc (suc (suc (suc (suc (suc x))))))) ∷ b) fs rest e = cc (e)

-- ---- the fields of a map that has one

module _ (read : Parse Tree) where
  abbrev fields_behind : ℕ → List ℕ → Tree × List ℕ → Option (Fields × List ℕ)
  fields_behind n name first = fields_at read n (Some name) first.1 >>= seen_as (field name first.0)

  abbrev fields_from : ℕ → Option (List ℕ) → List ℕ × List ℕ → Option (Fields × List ℕ)
  fields_from n last name = (if is_above last name.0 then read name.1 else None) >>= fields_behind n name.0

  more_read : (n : ℕ) (name rest : List ℕ) (o : Option (Tree × List ℕ)) → (o >>= fields_behind n name) ≡ Some (no_fields, rest) → ⊥
  more_read n name rest None e = cc (e)
  more_read n name rest (Some (v, r)) e = no_other (fields_at read n (Some name) r) (field name v) no_fields rest (λ a h. cc (h)) e

  more_named : (n : ℕ) (last : Option (List ℕ)) (rest : List ℕ) (o : Option (List ℕ × List ℕ)) → (o >>= fields_from n last) ≡ Some (no_fields, rest) → ⊥
  more_named n last rest None e = cc (e)
  more_named n last rest (Some (name, r)) e = more_read n name rest (if is_above last name then read r else None) e

  -- where a field is read, there is one
  some_field : (n : ℕ) (last : Option (List ℕ)) (bytes rest : List ℕ) → fields_at read (suc n) last bytes ≡ Some (no_fields, rest) → ⊥
  unfolding fields_at
  some_field n last bytes rest e = more_named n last rest (text_at bytes) e

  no_field : (last : Option (List ℕ)) (bytes : List ℕ) (fs : Fields) (name rest : List ℕ) (v : Tree) → fields_at read 0 last bytes ≡ Some (field name v fs, rest) → ⊥
  unfolding fields_at
  no_field last bytes fs name rest v e = cc (same_read no_fields (field name v fs) bytes rest e)

  -- what was read where one field was
  abbrev OneField : ℕ → List ℕ → List ℕ → Tree → List ℕ → Type 0
  OneField n bytes name v rest = (n ≡ 0) × ((behind : List ℕ) × ((text_at bytes ≡ Some (name, behind)) × (read behind ≡ Some (v, rest))))

  module _ (bytes name : List ℕ) (v : Tree) (rest : List ℕ) where
    last_read : (n : ℕ) (m behind : List ℕ) (w : Tree) (r : List ℕ) → text_at bytes ≡ Some (m, behind) → read behind ≡ Some (w, r)
        → (o : Option (Fields × List ℕ)) → fields_at read n (Some m) r ≡ o
        → (o >>= seen_as (field m w)) ≡ Some (field name v no_fields, rest) → OneField n bytes name v rest
    unfolding fields_at
    last_read n m behind w r named held None is e = absurd (cc (e))
    last_read zero m behind w r named held (Some (fs, s)) is e =
        let whole = same_read (field m w fs) (field name v no_fields) s rest e in
        let after : r ≡ rest = same_after no_fields fs r s is ∙ same_after (field m w fs) (field name v no_fields) s rest e in
        (refl, (behind, (named ∙ ap (λ (t : List ℕ). Some (t, behind)) (cc (whole)), held ∙ ap (λ (t : Tree). Some (t, r)) (cc (whole)) ∙ ap (λ (b : List ℕ). Some (v, b)) after)))
    last_read (suc n) m behind w r named held (Some (fs, s)) is e =
        let whole = same_read (field m w fs) (field name v no_fields) s rest e in
        let none : fs ≡ no_fields = cc (whole) in
        absurd (some_field n (Some m) r s (is ∙ ap (λ (x : Fields). Some (x, s)) none))

    first_read : (n : ℕ) (m behind : List ℕ) → text_at bytes ≡ Some (m, behind) → (b : Bool) (o : Option (Tree × List ℕ)) → read behind ≡ o
        → ((if b then o else None) >>= fields_behind n m) ≡ Some (field name v no_fields, rest) → OneField n bytes name v rest
    first_read n m behind named false o held e = absurd (cc (e))
    first_read n m behind named true None held e = absurd (cc (e))
    first_read n m behind named true (Some (w, r)) held e = last_read n m behind w r named held (fields_at read n (Some m) r) refl e

    name_read : (n : ℕ) (last : Option (List ℕ)) (o : Option (List ℕ × List ℕ)) → text_at bytes ≡ o
        → (o >>= fields_from n last) ≡ Some (field name v no_fields, rest) → OneField n bytes name v rest
    name_read n last None named e = absurd (cc (e))
    name_read n last (Some (m, behind)) named e = first_read n m behind named (is_above last m) (read behind) refl e

    one_read : (n : ℕ) (last : Option (List ℕ)) → fields_at read (suc n) last bytes ≡ Some (field name v no_fields, rest) → OneField n bytes name v rest
    unfolding fields_at
    one_read n last e = name_read n last (text_at bytes) refl e

-- ---- a map of one field

module _ (limit : ℕ) (bytes name : List ℕ) (v : Tree) (rest : List ℕ) (lt : 0 < limit) (stands : value_at limit bytes ≡ Some (tree.map (field name v no_fields), rest)) where
  -- it starts as one, and its field is the one that stands there
  abbrev pub StartsAsOne : Type 0
  StartsAsOne = (fields : List ℕ) × ((start_at bytes ≡ Some (map_of 1, fields)) × ((behind : List ℕ) × ((text_at fields ≡ Some (name, behind)) × (value_at (limit - 1) behind ≡ Some (v, rest)))))

  by_count : (n : ℕ) (fields : List ℕ) → start_at bytes ≡ Some (map_of n, fields) → (o : Option (Fields × List ℕ)) → fields_at (value_at (limit - 1)) n None fields ≡ o
      → (o >>= seen_as tree.map) ≡ Some (tree.map (field name v no_fields), rest) → StartsAsOne
  by_count n fields begun None is e = absurd (cc (e))
  by_count n fields begun (Some (fs, r)) is e =
      let whole = same_read (tree.map fs) (tree.map (field name v no_fields)) r rest e in
      let one : fs ≡ field name v no_fields = cc (whole) in
      let after = same_after (tree.map fs) (tree.map (field name v no_fields)) r rest e in
      by_field n fields begun (is ∙ ap (λ (x : Fields). Some (x, r)) one ∙ ap (λ (b : List ℕ). Some (field name v no_fields, b)) after)
    where
      by_field : (n : ℕ) (fields : List ℕ) → start_at bytes ≡ Some (map_of n, fields) → fields_at (value_at (limit - 1)) n None fields ≡ Some (field name v no_fields, rest) → StartsAsOne
      by_field zero fields begun is = absurd (no_field (value_at (limit - 1)) None fields no_fields name rest v is)
      by_field (suc n) fields begun is =
          let one = one_read (value_at (limit - 1)) fields name v rest n None is in
          (fields, (begun ∙ ap (λ (k : ℕ). Some (map_of (suc k), fields)) one.0, one.1))

  by_start : (o : Option (Begun × List ℕ)) → start_at bytes ≡ o → StartsAsOne
  unfolding value_behind
  by_start None begun = absurd (cc (sym (value_at-unstarted limit bytes begun) ∙ stands))
  by_start (Some (leaf u, r)) begun =
      let is = sym (value_at-started limit bytes (leaf u) r lt begun) ∙ stands in
      let same : u ≡ tree.map (field name v no_fields) = same_read u (tree.map (field name v no_fields)) r rest is in
      absurd (leaf_is_no_map bytes (field name v no_fields) r (begun ∙ ap (λ (t : Tree). Some (leaf t, r)) same))
  by_start (Some (list_of n, r)) begun =
      absurd (no_other (members_at (value_at (limit - 1)) n r) list (tree.map (field name v no_fields)) rest (λ a h. cc (h)) (sym (value_at-started limit bytes (list_of n) r lt begun) ∙ stands))
  by_start (Some (map_of n, r)) begun =
      by_count n r begun (fields_at (value_at (limit - 1)) n None r) refl (sym (value_at-started limit bytes (map_of n) r lt begun) ∙ stands)

  pub starts_as_one : StartsAsOne
  starts_as_one = by_start (start_at bytes) refl

-- ---- a whole number

module _ (limit : ℕ) (bytes : List ℕ) (number : ℤ) (rest : List ℕ) (lt : 0 < limit) (stands : value_at limit bytes ≡ Some (integer number, rest)) where
  number_by : (o : Option (Begun × List ℕ)) → start_at bytes ≡ o → start_at bytes ≡ Some (leaf (integer number), rest)
  unfolding value_behind
  number_by None begun = absurd (cc (sym (value_at-unstarted limit bytes begun) ∙ stands))
  number_by (Some (leaf u, r)) begun =
      let is = sym (value_at-started limit bytes (leaf u) r lt begun) ∙ stands in
      begun ∙ ap (λ (t : Tree). Some (leaf t, r)) (same_read u (integer number) r rest is) ∙ ap (λ (b : List ℕ). Some (leaf (integer number), b)) (same_after u (integer number) r rest is)
  number_by (Some (list_of n, r)) begun =
      absurd (no_other (members_at (value_at (limit - 1)) n r) list (integer number) rest (λ a h. cc (h)) (sym (value_at-started limit bytes (list_of n) r lt begun) ∙ stands))
  number_by (Some (map_of n, r)) begun =
      absurd (no_other (fields_at (value_at (limit - 1)) n None r) tree.map (integer number) rest (λ a h. cc (h)) (sym (value_at-started limit bytes (map_of n) r lt begun) ∙ stands))

  number_starts : start_at bytes ≡ Some (leaf (integer number), rest)
  number_starts = number_by (start_at bytes) refl

-- the number behind the name of the only field
pub number_left : (limit : ℕ) (bytes only found value name : List ℕ) (number : ℤ) (rest : List ℕ) → 1 < limit
    → start_at bytes ≡ Some (map_of 1, only) → text_at only ≡ Some (found, value)
    → value_at limit bytes ≡ Some (tree.map (field name (integer number) no_fields), rest) → start_at value ≡ Some (leaf (integer number), rest)
number_left limit bytes only found value name number rest lt begun named stands =
    let one = starts_as_one limit bytes name (integer number) rest (omega (arith, lt)) stands in
    let fields : one.0 ≡ only = same_after (map_of 1) (map_of 1) one.0 only (sym one.1.0 ∙ begun) in
    let behind : one.1.1.0 ≡ value = same_after name found one.1.1.0 value (sym one.1.1.1.0 ∙ ap text_at fields ∙ named) in
    ap start_at (sym behind) ∙ number_starts (limit - 1) one.1.1.0 number rest (omega (arith, lt)) one.1.1.1.1

-- ---- the argument of a call

pub asked_value : (o : Option (Tree × List ℕ)) → IsSome o → (call : Option Call) (found : List ℕ)
    → ((v : Tree) → (rest : List ℕ) → o ≡ Some (v, rest) → call ≡ Some (asks found v))
    → (method : List ℕ) (t : Tree) → call ≡ Some (asks method t) → (rest : List ℕ) × (o ≡ Some (t, rest))
asked_value None some call found says method t is = absurd (cc (some))
asked_value (Some (v, rest)) some call found says method t is =
    let same : v ≡ t = ap (λ (c : Call). c.argument) (same_Some (asks found v) (asks method t) (sym (says v rest refl) ∙ is)) in
    (rest, ap (λ (u : Tree). Some (u, rest)) same)
