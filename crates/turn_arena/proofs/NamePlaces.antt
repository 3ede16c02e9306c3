-- The place of a name among fields: found one field after the other in their bytes, and what setting the name there spells.
use Rattle.std.proofs.Common.{◌≡◌, ℕ, ◌+◌, ◌-◌, ◌<◌, ◌≤◌, List, [], ◌∷◌, ◌++◌, length, take, Option, Some, None, Ordering, Less, Equal, Greater, nat_cmp, refl, sym, ap, subst, ◌∙◌, append_assoc, arith}
use Rattle.std.specs.Cmp.Lexicographic.{slice_cmp}
use Rattle.std.specs.Int.{w32, to_be_bytes}
use Rattle.std.proofs.Math.Nat.{le-max_left, le-max_right}
use Rattle.std.proofs.Math.Seq.{take-append_seam}
use Rattle.std.proofs.lemmas.List.{length-append, append-nil}
use Rattle.std.proofs.lemmas.Option.{same_Some, some_pair_parts}
use Rattle.request_codec.specs.inside.Ends.{end_of}
use Rattle.request_codec.specs.Reading.{text_at, value_at}
use Rattle.request_codec.specs.Spelling.{SpellFields}
use Rattle.request_codec.specs.Tree.{Tree, map, Fields, no_fields, field, fields_count, depth, fields_depth}
use Rattle.request_codec.specs.Written.{text_spelling, spelling, fields_spelling}
use Rattle.request_codec.proofs.Numbers.{text_again}
use Rattle.request_codec.proofs.OneSpelling.{value_again_within}
use Rattle.request_codec.proofs.Spelled.{spelling-is}
use Rattle.turn_arena.specs.Fields.{by_order, field_put}
use Rattle.turn_arena.specs.inside.Places.{fields_front, fields_behind, IsPlaceIn}
use Rattle.turn_arena.specs.declared.setting.Place.{Place}

-- ---- what is spelled once the name is set

put_spelling_by : (o : Ordering) (n m : List ℕ) (v w : Tree) (fs : Fields)
    → fields_spelling (field_put n v fs) ≡ fields_spelling (fields_front n fs) ++ (text_spelling n ++ (spelling v ++ fields_spelling (fields_behind n fs)))
    → fields_spelling (by_order o (field n v (field m w fs)) (field n v fs) (field m w (field_put n v fs)))
    ≡ fields_spelling (by_order o no_fields no_fields (field m w (fields_front n fs))) ++ (text_spelling n ++ (spelling v ++ fields_spelling (by_order o (field m w fs) fs (fields_behind n fs))))
unfolding spelling
put_spelling_by Less n m v w fs h = refl
put_spelling_by Equal n m v w fs h = refl
put_spelling_by Greater n m v w fs h =
    let front = fields_spelling (fields_front n fs) in
    let rest = text_spelling n ++ (spelling v ++ fields_spelling (fields_behind n fs)) in
    ap (λ (b : List ℕ). text_spelling m ++ (spelling w ++ b)) h
    ∙ sym (append_assoc (text_spelling m) (spelling w ++ front) rest ∙ ap (λ (b : List ℕ). text_spelling m ++ b) (append_assoc (spelling w) front rest))

pub put_spelling : (n : List ℕ) (v : Tree) (fs : Fields) → fields_spelling (field_put n v fs) ≡ fields_spelling (fields_front n fs) ++ (text_spelling n ++ (spelling v ++ fields_spelling (fields_behind n fs)))
unfolding spelling
put_spelling n v no_fields = refl
put_spelling n v (field m w fs) = put_spelling_by (slice_cmp nat_cmp n m) n m v w fs (put_spelling n v fs)

-- the map with the field at its place is the map with the name set
pub put_written : (n : List ℕ) (v : Tree) (fs : Fields) (place : Place) → IsPlaceIn n fs place
    → 6 ∷ (to_be_bytes w32 place.count ++ (place.front.now ++ (text_spelling n ++ (spelling v ++ place.behind.now)))) ≡ spelling (map (field_put n v fs))
unfolding spelling
put_written n v fs place at =
    (λ i. 6 ∷ (to_be_bytes w32 (at.count_put v i) ++ (at.front_spelled i ++ (text_spelling n ++ (spelling v ++ at.behind_spelled i)))))
    ∙ ap (λ (b : List ℕ). 6 ∷ (to_be_bytes w32 (fields_count (field_put n v fs)) ++ b)) (sym (put_spelling n v fs))

pub fields_spelling-is : (fs : Fields) (bytes : List ℕ) → SpellFields fs bytes → bytes ≡ fields_spelling fs
unfolding spelling
fields_spelling-is no_fields bytes h = h
fields_spelling-is (field n v fs) bytes h =
    h.7 ∙ (λ i. (h.3.2 i ++ spelling-is v h.1 h.4 i) ++ fields_spelling-is fs h.2 h.5 i) ∙ append_assoc (text_spelling n) (spelling v) (fields_spelling fs)

-- ---- the field that stands next

-- the bytes spell these fields, of which the first has this name, and `after` spells the others
pub record IsNext (left : Fields) (rest name after : List ℕ) : Type 0 where
  pub value : Tree
  pub others : Fields
  pub is : left ≡ field name value others
  pub parts : rest ≡ (text_spelling name ++ spelling value) ++ after
  pub others_spelled : SpellFields others after

module _ (m : List ℕ) (w : Tree) (fs : Fields) (rest : List ℕ) (spelled : SpellFields (field m w fs) rest) (deep : fields_depth (field m w fs) ≤ 31) where
  first_name : text_at rest ≡ Some (m, spelled.1 ++ spelled.2)
  first_name = ap text_at (spelled.7 ∙ append_assoc spelled.0 spelled.1 spelled.2) ∙ text_again m spelled.0 (spelled.1 ++ spelled.2) spelled.3

  first_value : value_at 31 (spelled.1 ++ spelled.2) ≡ Some (w, spelled.2)
  first_value = value_again_within w 31 spelled.1 spelled.2 spelled.4 (omega (arith, deep, le-max_left (depth w) (fields_depth fs)))

  module _ (name behind : List ℕ) (named : text_at rest ≡ Some (name, behind)) where
    same_name : (m ≡ name) × (spelled.1 ++ spelled.2 ≡ behind)
    same_name = some_pair_parts m name (spelled.1 ++ spelled.2) behind (sym first_name ∙ named)

    next_value : value_at 31 behind ≡ Some (w, spelled.2)
    next_value = ap (value_at 31) (sym same_name.1) ∙ first_value

    next_field : (after : List ℕ) → Some after ≡ end_of (value_at 31 behind) → IsNext (field m w fs) rest name after
    next_field after ended =
        let same : after ≡ spelled.2 = same_Some after spelled.2 (ended ∙ ap end_of next_value) in
        let front : spelled.0 ++ spelled.1 ≡ text_spelling name ++ spelling w = λ i. (spelled.3.2 ∙ ap text_spelling same_name.0) i ++ spelling-is w spelled.1 spelled.4 i in
        record {
          value = w;
          others = fs;
          is = ap (λ (k : List ℕ). field k w fs) same_name.0;
          parts = spelled.7 ∙ (λ i. front i ++ sym same i);
          others_spelled = subst (SpellFields fs) (sym same) spelled.5;
        }

-- ---- the fields that are left

-- The name is above those that were passed, of which there are so many.
pub record AreLeft (n : List ℕ) (fs : Fields) (bytes : List ℕ) (gone : ℕ) (rest : List ℕ) (left : Fields) : Type 0 where
  pub passed : List ℕ
  pub parts : bytes ≡ passed ++ rest
  pub left_spelled : SpellFields left rest
  pub left_depth : fields_depth left ≤ 31
  pub left_count : gone + fields_count left ≡ fields_count fs
  pub front_is : fields_spelling (fields_front n fs) ≡ passed ++ fields_spelling (fields_front n left)
  pub behind_is : fields_behind n fs ≡ fields_behind n left
  pub count_is : (v : Tree) → fields_count (field_put n v fs) ≡ gone + fields_count (field_put n v left)

pub all_left : (n : List ℕ) (fs : Fields) (bytes : List ℕ) → SpellFields fs bytes → fields_depth fs ≤ 31 → AreLeft n fs bytes 0 bytes fs
all_left n fs bytes spelled deep = record {
  passed = [];
  parts = refl;
  left_spelled = spelled;
  left_depth = deep;
  left_count = omega arith;
  front_is = refl;
  behind_is = refl;
  count_is = λ v. omega arith;
}

some_name : (left : Fields) (rest : List ℕ) → SpellFields left rest → fields_depth left ≤ 31 → 0 < fields_count left → text_at rest ≡ None → ⊥
some_name no_fields rest spelled deep some none = absurd (omega (arith, some))
some_name (field m w fs) rest spelled deep some none =
    let both : Path (Option (List ℕ × List ℕ)) None (Some (m, spelled.1 ++ spelled.2)) = sym none ∙ first_name m w fs rest spelled deep in
    absurd cc

some_value : (left : Fields) (rest name behind : List ℕ) → SpellFields left rest → fields_depth left ≤ 31 → 0 < fields_count left → text_at rest ≡ Some (name, behind) → None ≡ end_of (value_at 31 behind) → ⊥
some_value no_fields rest name behind spelled deep some named none = absurd (omega (arith, some))
some_value (field m w fs) rest name behind spelled deep some named none =
    let both : Path (Option (List ℕ)) None (Some spelled.2) = none ∙ ap end_of (next_value m w fs rest spelled deep name behind named) in
    absurd cc

next_left : (left : Fields) (rest name behind after : List ℕ) → SpellFields left rest → fields_depth left ≤ 31 → 0 < fields_count left → text_at rest ≡ Some (name, behind) → Some after ≡ end_of (value_at 31 behind) → IsNext left rest name after
next_left no_fields rest name behind after spelled deep some named ended = absurd (omega (arith, some))
next_left (field m w fs) rest name behind after spelled deep some named ended = next_field m w fs rest spelled deep name behind named after ended

module _ (n : List ℕ) (fs : Fields) (bytes : List ℕ) (gone : ℕ) (rest : List ℕ) (left : Fields) (s : AreLeft n fs bytes gone rest left) where
  pub left_length : length rest ≤ length bytes
  left_length = omega (arith, ap (λ (b : List ℕ). length b) s.parts, length-append s.passed rest)

  passed_is : take (length bytes - length rest) bytes ≡ s.passed
  passed_is =
      let few : length bytes - length rest ≡ length s.passed = omega (arith, ap (λ (b : List ℕ). length b) s.parts, length-append s.passed rest) in
      ap (λ (k : ℕ). take k bytes) few ∙ ap (take (length s.passed)) s.parts ∙ take-append_seam s.passed rest

  none_left : (left_now : Fields) → left ≡ left_now → fields_count fs ≤ gone → left ≡ no_fields
  none_left no_fields is all = is
  none_left (field m w others) is all = absurd (omega (arith, s.left_count, ap fields_count is, all))

  -- no field is left: the name goes behind them all
  pub place_at_end : (place : Place) → fields_count fs ≤ gone → place.front.now ≡ bytes → place.behind.now ≡ rest → place.count ≡ fields_count fs + 1 → IsPlaceIn n fs place
  unfolding spelling
  place_at_end place all front behind count =
      let none = none_left left refl all in
      let rest_none : rest ≡ [] = subst (λ (l : Fields). SpellFields l rest) none s.left_spelled in
      record {
        front_spelled = front ∙ s.parts ∙ ap (λ (b : List ℕ). s.passed ++ b) rest_none ∙ sym (s.front_is ∙ ap (λ (l : Fields). s.passed ++ fields_spelling (fields_front n l)) none);
        behind_spelled = behind ∙ rest_none ∙ sym (ap fields_spelling (s.behind_is ∙ ap (fields_behind n) none));
        count_put = λ v. omega (arith, count, s.count_is v, ap (λ (l : Fields). fields_count (field_put n v l)) none, s.left_count, ap fields_count none);
      }

  module _ (lt : gone < fields_count fs) where
    pub some_left : 0 < fields_count left
    some_left = omega (arith, s.left_count, lt)

    pub named_left : text_at rest ≡ None → ⊥
    named_left none = some_name left rest s.left_spelled s.left_depth some_left none

    module _ (name behind : List ℕ) (named : text_at rest ≡ Some (name, behind)) where
      pub valued_left : None ≡ end_of (value_at 31 behind) → ⊥
      valued_left none = some_value left rest name behind s.left_spelled s.left_depth some_left named none

      module _ (after : List ℕ) (ended : Some after ≡ end_of (value_at 31 behind)) where
        pub next : IsNext left rest name after
        next = next_left left rest name behind after s.left_spelled s.left_depth some_left named ended

        front_by : (o : Ordering) → slice_cmp nat_cmp n name ≡ o → fields_front n left ≡ by_order o no_fields no_fields (field name next.value (fields_front n next.others))
        front_by o e = ap (fields_front n) next.is ∙ ap (λ (p : Ordering). by_order p no_fields no_fields (field name next.value (fields_front n next.others))) e

        behind_by : (o : Ordering) → slice_cmp nat_cmp n name ≡ o → fields_behind n left ≡ by_order o (field name next.value next.others) next.others (fields_behind n next.others)
        behind_by o e = ap (fields_behind n) next.is ∙ ap (λ (p : Ordering). by_order p (field name next.value next.others) next.others (fields_behind n next.others)) e

        put_by : (v : Tree) (o : Ordering) → slice_cmp nat_cmp n name ≡ o
            → field_put n v left ≡ by_order o (field n v (field name next.value next.others)) (field n v next.others) (field name next.value (field_put n v next.others))
        put_by v o e = ap (field_put n v) next.is ∙ ap (λ (p : Ordering). by_order p (field n v (field name next.value next.others)) (field n v next.others) (field name next.value (field_put n v next.others))) e

        -- the next field's name is above: the name goes before it
        pub place_before : (place : Place) → slice_cmp nat_cmp n name ≡ Less → place.front.now ≡ take (length bytes - length rest) bytes → place.behind.now ≡ rest → place.count ≡ fields_count fs + 1 → IsPlaceIn n fs place
        unfolding spelling
        place_before place less front behind count = record {
          front_spelled = front ∙ passed_is ∙ sym (s.front_is ∙ ap (λ (l : Fields). s.passed ++ fields_spelling l) (front_by Less less) ∙ append-nil s.passed);
          behind_spelled = behind ∙ fields_spelling-is left rest s.left_spelled ∙ sym (ap fields_spelling (s.behind_is ∙ behind_by Less less ∙ sym next.is));
          count_put = λ v. omega (arith, count, s.count_is v, ap fields_count (put_by v Less less), s.left_count, ap fields_count next.is);
        }

        -- the next field has the name
        pub place_found : (place : Place) → slice_cmp nat_cmp n name ≡ Equal → place.front.now ≡ take (length bytes - length rest) bytes → place.behind.now ≡ after → place.count ≡ fields_count fs → IsPlaceIn n fs place
        unfolding spelling
        place_found place same front behind count = record {
          front_spelled = front ∙ passed_is ∙ sym (s.front_is ∙ ap (λ (l : Fields). s.passed ++ fields_spelling l) (front_by Equal same) ∙ append-nil s.passed);
          behind_spelled = behind ∙ fields_spelling-is next.others after next.others_spelled ∙ sym (ap fields_spelling (s.behind_is ∙ behind_by Equal same));
          count_put = λ v. omega (arith, count, s.count_is v, ap fields_count (put_by v Equal same), s.left_count, ap fields_count next.is);
        }

        -- the next field's name is below: it is passed
        pub pass_next : slice_cmp nat_cmp n name ≡ Greater → AreLeft n fs bytes (gone + 1) after next.others
        unfolding spelling
        pass_next greater =
            let w = next.value in
            let more = fields_spelling (fields_front n next.others) in
            record {
              passed = s.passed ++ (text_spelling name ++ spelling w);
              parts = s.parts ∙ ap (λ (b : List ℕ). s.passed ++ b) next.parts ∙ sym (append_assoc s.passed (text_spelling name ++ spelling w) after);
              left_spelled = next.others_spelled;
              left_depth = omega (arith, s.left_depth, ap fields_depth next.is, le-max_right (depth w) (fields_depth next.others));
              left_count = omega (arith, s.left_count, ap fields_count next.is);
              front_is =
                  s.front_is ∙ ap (λ (l : Fields). s.passed ++ fields_spelling l) (front_by Greater greater)
                  ∙ ap (λ (b : List ℕ). s.passed ++ b) (sym (append_assoc (text_spelling name) (spelling w) more))
                  ∙ sym (append_assoc s.passed (text_spelling name ++ spelling w) more);
              behind_is = s.behind_is ∙ behind_by Greater greater;
              count_is = λ v. omega (arith, s.count_is v, ap fields_count (put_by v Greater greater));
            }
