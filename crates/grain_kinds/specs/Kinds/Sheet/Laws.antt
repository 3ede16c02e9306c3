-- The plans of sheets keep the laws.
use Rattle.std.proofs.Common.{◌≡◌, ℕ, ◌≤◌, List, Option, Some, None, Result, Ok, nat_cmp, ltb-false, refl, ap}
use Rattle.std.proofs.Common.{subst, arith}
use Rattle.std.specs.Prelude.{IsTrue, nat_lt, codes, option_map, option_and_then}
use Rattle.std.specs.List.{AllByRecursion}
use Rattle.std.specs.Option.{unwrap_or}
use Rattle.std.specs.Cmp.Lexicographic.{slice_cmp}
use Rattle.std.specs.Ordering.{is_lt}
use Rattle.std.proofs.lemmas.Cmp.{nat_list_cmp_total}
use Rattle.finite_maps.proofs.Ascending.{less_from_is_lt}
use Rattle.grain_id.specs.Names.{same_text}
use Rattle.request_codec.proofs.Spelled.{some_length}
use Rattle.request_codec.specs.Answers.{spelled_length, members_length, fields_length}
use Rattle.request_codec.specs.Call.{Call, asks}
use Rattle.request_codec.specs.Formed.{AreFormed, FieldsFormed}
use Rattle.request_codec.specs.Limits.{state_limit}
use Rattle.request_codec.specs.Spelling.{IsBelowFirst}
use Rattle.request_codec.specs.Tree as tree
use Rattle.request_codec.specs.Tree.{Tree, null, members_depth, fields_depth, Fields, no_fields, field}
use Rattle.turn_arena.specs.Fields.{fields_in, field_dropped, value_put}
use Rattle.grain_logic.proofs.KeepSame.{IsSilent, null_silent, shape_silent}
use Rattle.grain_logic.specs.declared.fault.MethodFault.{MethodFault}
use Rattle.grain_logic.specs.declared.fault.MethodFault.TheVariants.{TooLarge}
use Rattle.grain_logic.specs.Laws.{FitsState, ChangesNothing}
use Rattle.grain_logic.specs.LawsOfForms.{ObeysLaws, null_fits, truth_fits, if_holds, keeps_obeys, keeps_changes_nothing, fault_obeys}
use Rattle.grain_logic.specs.LawsOfForms.{becomes_obeys, for_null_obeys, for_null_changes_nothing, for_shape_obeys}
use Rattle.grain_kinds.specs.inside.Held.{HoldsTwo, two_fields, two_fit, text_first}
use Rattle.grain_logic.specs.Shared.{keeps, for_shape, only_fields, text_value, text_field}
use Rattle.grain_kinds.specs.Kinds.Sheet.{value_in, names_in, get_plan, drop_plan, list_plan, put_argument, sheet_methods, sheet}
use Rattle.grain_logic.specs.Setting.{sets_field}
use Rattle.grain_logic.specs.LawsOfTables.{IsLawfulKind, changes_lawful, reads_lawful}
use Rattle.grain_kinds.specs.Kinds.EveryKind.{every_kind}
use Rattle.grain_kinds.specs.Kinds.EveryKind.Laws.{every_kind_lawful, every_silent}
use Rattle.grain_kinds.specs.Rows.{IsRow, IsSilentMethod, had, had_silent}
use Rattle.grain_logic.specs.LawsOfSetting.{by_order_holds, fields_fit, put_fits}

-- ---- the order of names

below_first : (m n : List ℕ) (fs : Fields) → IsTrue (is_lt (slice_cmp nat_cmp m n)) → IsBelowFirst n fs → IsBelowFirst m fs
below_first m n no_fields lt h = tt
below_first m n (field k v fs) lt h = ap is_lt (nat_list_cmp_total.trans m n k (less_from_is_lt _ lt) (less_from_is_lt _ h))

-- ---- a field left out

below_dropped : (m n : List ℕ) (fs : Fields) → FieldsFormed fs → IsBelowFirst m fs → IsBelowFirst m (field_dropped n fs)
below_dropped m n no_fields formed h = tt
below_dropped m n (field k w fs) formed h =
    by_order_holds (IsBelowFirst m) (slice_cmp nat_cmp n k) _ _ _ (λ less. h) (λ same. below_first m k fs h formed.2) (λ greater. h)

dropped_formed : (n : List ℕ) (fs : Fields) → FieldsFormed fs → FieldsFormed (field_dropped n fs)
dropped_formed n no_fields h = tt
dropped_formed n (field m w fs) h =
    by_order_holds FieldsFormed (slice_cmp nat_cmp n m) _ _ _ (λ less. h) (λ same. h.3)
    (λ greater. (h.0, h.1, below_dropped m n fs h.3 h.2, dropped_formed n fs h.3))

dropped_depth : (n : List ℕ) (fs : Fields) → fields_depth (field_dropped n fs) ≤ fields_depth fs
dropped_depth n no_fields = omega arith
dropped_depth n (field m w fs) =
    let deeper = dropped_depth n fs in
    by_order_holds (λ (gs : Fields). fields_depth gs ≤ fields_depth (field m w fs)) (slice_cmp nat_cmp n m) _ _ _
    (λ less. omega arith) (λ same. omega arith) (λ greater. omega arith)

dropped_length : (n : List ℕ) (fs : Fields) → fields_length (field_dropped n fs) ≤ fields_length fs
dropped_length n no_fields = omega arith
dropped_length n (field m w fs) =
    let longer = dropped_length n fs in
    by_order_holds (λ (gs : Fields). fields_length gs ≤ fields_length (field m w fs)) (slice_cmp nat_cmp n m) _ _ _
    (λ less. omega arith) (λ same. omega arith) (λ greater. omega arith)

-- ---- put

put_if : (argument : Tree) (o : Option (Tree × Tree)) (n : List ℕ) (v : Tree) → only_fields (codes "name") (codes "value") argument ≡ o
    → option_and_then {U = List ℕ × Tree} (λ values. option_map (λ name. (name, values.1)) (text_value values.0)) o ≡ Some (n, v)
    → HoldsTwo (tree.text n) v argument
put_if argument None n v is e = absurd cc
put_if argument (Some p) n v is e =
    let parts = text_first p.0 p.1 n v e in
    subst (λ (x : Tree). HoldsTwo x v argument) parts.0
    (subst (λ (y : Tree). HoldsTwo p.0 y argument) parts.1 (two_fields (codes "name") (codes "value") argument p.0 p.1 is))

put_obeys : (state argument : Tree) (method n : List ℕ) (v : Tree) → put_argument argument ≡ Some (n, v)
    → ObeysLaws state (asks method argument) (sets_field state (n, v))
put_obeys state argument method n v held =
    let two = put_if argument _ n v refl held in
    let sheet = value_put n v state in
    if_holds (ObeysLaws state (asks method argument)) (nat_lt state_limit (spelled_length sheet)) _ _
    (λ large. fault_obeys state (asks method argument) TooLarge)
    (λ small. becomes_obeys state (asks method argument) sheet null (λ s m.
    let two = two_fit method (tree.text n) v argument two m in
    let fits = put_fits state n v s two.first_formed (record { formed = two.second_formed; depth_within = two.second_depth }) in
    (record { formed = fits.0; depth_within = fits.1; length_within = ltb-false state_limit (spelled_length sheet) small }, null_fits)))

-- ---- get, drop and list

value_fits : (name : List ℕ) (fs : Fields) → FieldsFormed fs → fields_depth fs ≤ 31 → fields_length fs ≤ state_limit
    → FitsState (unwrap_or (value_in name fs) null)
value_fits name no_fields formed deep long = null_fits
value_fits name (field n v fs) formed deep long =
    if_holds (λ (o : Option Tree). FitsState (unwrap_or o null)) (same_text n name) (Some v) (value_in name fs)
    (λ same. record { formed = formed.1; depth_within = omega arith; length_within = omega arith })
    (λ other. value_fits name fs formed.3 (omega arith) (omega arith))

get_obeys : (state : Tree) (call : Call) (name : List ℕ) → ObeysLaws state call (get_plan state name)
get_obeys state call name =
    keeps_obeys state call _
    (λ s m. let fields = fields_fit state s in
    value_fits name (fields_in state) fields.formed fields.depth_within (omega (arith, fields.length_within)))

drop_obeys : (state : Tree) (call : Call) (name : List ℕ) → ObeysLaws state call (drop_plan state name)
drop_obeys state call name = becomes_obeys state call _ _ (λ s m.
    let fields = fields_fit state s in (
      record {
        formed = dropped_formed name (fields_in state) fields.formed;
        depth_within = omega (arith, dropped_depth name (fields_in state), fields.depth_within);
        length_within = omega (arith, dropped_length name (fields_in state), fields.length_within);
      },
      truth_fits _,
    ))

names_formed : (fs : Fields) → FieldsFormed fs → AreFormed (names_in fs)
names_formed no_fields h = tt
names_formed (field n v fs) h = (h.0, names_formed fs h.3)

names_depth : (fs : Fields) → members_depth (names_in fs) ≤ 1
names_depth no_fields = omega arith
names_depth (field n v fs) = omega (arith, names_depth fs)

names_length : (fs : Fields) → members_length (names_in fs) ≤ fields_length fs
names_length no_fields = omega arith
names_length (field n v fs) = omega (arith, names_length fs, some_length v)

list_obeys : (state : Tree) (call : Call) → ObeysLaws state call (list_plan state)
list_obeys state call = keeps_obeys state call _ (λ s m.
    let fields = fields_fit state s in
    record {
      formed = names_formed (fields_in state) fields.formed;
      depth_within = omega (arith, names_depth (fields_in state));
      length_within = omega (arith, names_length (fields_in state), fields.length_within);
    })

-- ---- all methods

shape_changes_nothing : {A : Type 0} (state : Tree) (held : Option A) (outcome : A → Result Tree MethodFault)
    → ChangesNothing state (for_shape state held (λ x. keeps state (outcome x)))
shape_changes_nothing state None outcome = keeps_changes_nothing state _
shape_changes_nothing state (Some x) outcome = keeps_changes_nothing state _

sheet_lawful : IsLawfulKind sheet
unfolding sheet_methods
sheet_lawful = record {
  empty_fits = record { formed = tt; depth_within = omega arith; length_within = omega arith };
  methods_lawful = (
    changes_lawful (codes "put") 1 _ (λ state argument.
        for_shape_obeys state (asks (codes "put") argument) (put_argument argument) (sets_field state)
        (λ put held. put_obeys state argument (codes "put") put.0 put.1 held)),
    (
      reads_lawful (codes "get") 1 _ (λ state argument.
          for_shape_obeys state (asks (codes "get") argument) (text_field (codes "name") argument) (get_plan state)
          (λ name held. get_obeys state _ name)) (λ state argument.
          shape_changes_nothing state (text_field (codes "name") argument) (λ name. Ok (unwrap_or (value_in name (fields_in state)) null))),
      (
        changes_lawful (codes "drop") 1 _ (λ state argument.
            for_shape_obeys state (asks (codes "drop") argument) (text_field (codes "name") argument) (drop_plan state)
            (λ name held. drop_obeys state _ name)),
        (
          reads_lawful (codes "list") 1 _ (λ state argument. for_null_obeys state argument _ _ (list_obeys state _)) (λ state argument.
              for_null_changes_nothing state argument (list_plan state) (keeps_changes_nothing state _)),
          every_kind_lawful,
        ),
      ),
    ),
  );
}

sheet_silent : AllByRecursion IsSilentMethod (had 1 sheet_methods)
unfolding sheet_methods
sheet_silent = (
  λ state argument. shape_silent state (put_argument argument) (sets_field state)
      (λ put. if_holds IsSilent (nat_lt state_limit (spelled_length (value_put put.0 put.1 state))) _ _
      (λ e. record { is_same = refl }) (λ e. record { is_same = refl })),
  (
    λ state argument. shape_silent state (text_field (codes "name") argument) (get_plan state) (λ name. record { is_same = refl }),
    (
      λ state argument. shape_silent state (text_field (codes "name") argument) (drop_plan state) (λ name. record { is_same = refl }),
      (
        λ state argument. null_silent state argument (list_plan state) (record { is_same = refl }),
        every_silent,
      ),
    ),
  ),
)

pub sheet_row : IsRow sheet
unfolding sheet_methods every_kind
sheet_row = record { lawful = sheet_lawful; stands = refl; silent = had_silent 1 sheet_methods sheet_silent }
