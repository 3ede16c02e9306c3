-- What the bytes of a state say of its fields.
use Rattle.std.proofs.Common.{◌≡◌, ℕ, ◌≤◌, ◌^◌, Bool, true, false, List, [], ◌∷◌, ◌++◌, length, Option, Some, None, refl, sym, ap, subst, ◌∙◌, arith}
use Rattle.std.specs.Prelude.{◌==◌, if◌then◌else◌}
use Rattle.std.specs.Int.{w32, to_be_bytes}
use Rattle.std.proofs.lemmas.List.{length-append}
use Rattle.std.proofs.lemmas.Option.{same_Some, some_pair_parts}
use Rattle.request_codec.specs.Limits.{state_limit}
use Rattle.request_codec.specs.Reading.{number_at}
use Rattle.request_codec.specs.Spelling.{Spells, SpellFields, SpellsState}
use Rattle.request_codec.specs.Tree as tree
use Rattle.request_codec.specs.Tree.{Tree, Fields, no_fields, field, fields_count}
use Rattle.request_codec.proofs.Numbers.{wide32, number_again}
use Rattle.turn_arena.specs.Fields.{fields_in}
use Rattle.turn_arena.specs.inside.Places.{behind_map}

few_fields : (fs : Fields) (bytes : List ℕ) → SpellFields fs bytes → fields_count fs ≤ length bytes
few_fields no_fields bytes h = omega arith
few_fields (field n v fs) bytes h =
    omega (arith, ap (λ (b : List ℕ). length b) h.7, length-append (h.0 ++ h.1) h.2, length-append h.0 h.1, ap (λ (b : List ℕ). length b) h.3.2, length-append (to_be_bytes w32 (length n)) n, few_fields fs h.2 h.5)

-- behind a map's first byte stand the count of its fields, and the fields
pub record CountsFields (v : Tree) (behind : List ℕ) : Type 0 where
  pub rest : List ℕ
  pub read : number_at w32 behind ≡ Some (fields_count (fields_in v), rest)
  pub spelled : SpellFields (fields_in v) rest
  pub shorter : length rest ≤ length behind

no_map : (v : Tree) (behind bytes rest : List ℕ) → behind_map rest ≡ None → bytes ≡ rest → Some behind ≡ behind_map bytes → CountsFields v behind
no_map v behind bytes rest none is there =
    let both : Path (Option (List ℕ)) (Some behind) None = there ∙ ap behind_map is ∙ none in
    absurd cc

counts_fields : (v : Tree) (bytes behind : List ℕ) → Spells v bytes → Some behind ≡ behind_map bytes → CountsFields v behind
counts_fields tree.null bytes behind h there = no_map _ behind bytes _ refl h there
counts_fields (tree.truth false) bytes behind h there = no_map _ behind bytes _ refl h there
counts_fields (tree.truth true) bytes behind h there = no_map _ behind bytes _ refl h there
counts_fields (tree.integer i) bytes behind h there = no_map _ behind bytes _ refl h.1 there
counts_fields (tree.text s) bytes behind h there = no_map _ behind bytes _ refl h.2 there
counts_fields (tree.list vs) bytes behind h there = no_map _ behind bytes _ refl h.3 there
counts_fields (tree.bytes b) bytes behind h there = no_map _ behind bytes _ refl h.2 there
counts_fields (tree.map fs) bytes behind h there =
    let same : behind ≡ to_be_bytes w32 (fields_count fs) ++ h.0 = same_Some behind _ (there ∙ ap behind_map h.3) in
    record {
      rest = h.0;
      read = ap (number_at w32) same ∙ number_again w32 (2 ^ 32) wide32 (fields_count fs) h.0 h.1;
      spelled = h.2;
      shorter = omega (arith, ap (λ (b : List ℕ). length b) same, length-append (to_be_bytes w32 (fields_count fs)) h.0);
    }

behind_if : (b : Bool) (bytes behind : List ℕ) → ◌≡◌ {A = Option (List ℕ)} (Some behind) (if b then Some bytes else None) → length behind ≤ length bytes
behind_if true bytes behind e = omega (arith, ap (λ (b : List ℕ). length b) (same_Some behind bytes e))
behind_if false bytes behind e = absurd cc

behind_shorter : (bytes behind : List ℕ) → Some behind ≡ behind_map bytes → length behind ≤ length bytes
behind_shorter [] behind e = absurd cc
behind_shorter (b ∷ bytes) behind e = omega (arith, behind_if (b == 6) bytes behind e)

-- ---- of a state

module _ (v : Tree) (bytes behind : List ℕ) (is : SpellsState v bytes) (there : Some behind ≡ behind_map bytes) where
  counted : CountsFields v behind
  counted = counts_fields v bytes behind is.value_spelled there

  pub count_there : None ≡ number_at w32 behind → ⊥
  count_there none =
      let both : Path (Option (ℕ × List ℕ)) None (Some (fields_count (fields_in v), counted.rest)) = none ∙ counted.read in
      absurd cc

  module _ (count : ℕ) (fields : List ℕ) (read : Some (count, fields) ≡ number_at w32 behind) where
    parts : (count ≡ fields_count (fields_in v)) × (fields ≡ counted.rest)
    parts = some_pair_parts count (fields_count (fields_in v)) fields counted.rest (read ∙ counted.read)

    pub count_is : count ≡ fields_count (fields_in v)
    count_is = parts.0

    pub fields_spelled : SpellFields (fields_in v) fields
    fields_spelled = subst (SpellFields (fields_in v)) (sym parts.1) counted.spelled

    pub count_few : count ≤ state_limit
    count_few = omega (arith, parts.0, few_fields (fields_in v) counted.rest counted.spelled, counted.shorter, behind_shorter bytes behind there, is.length_within)
