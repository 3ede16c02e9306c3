-- A field that is set keeps the form and the depth of a state.
use Rattle.std.proofs.Common.{◌≡◌, ℕ, ◌+◌, ◌≤◌, List, Ordering, Less, Equal, Greater, nat_cmp, refl, ap, sym, ◌∙◌, subst, arith}
use Rattle.std.specs.Prelude.{max, IsTrue, IsUtf8}
use Rattle.std.specs.Cmp.Lexicographic.{slice_cmp}
use Rattle.std.specs.FinMap.{slice_cmp-IsAntisymmetric, nat_cmp-IsAntisymmetric}
use Rattle.std.specs.Ordering.{is_lt, ordering_reverse}
use Rattle.std.proofs.lemmas.Cmp.{nat_list_cmp_total}
use Rattle.request_codec.specs.Answers.{fields_length}
use Rattle.request_codec.specs.Formed.{IsFormed, FieldsFormed}
use Rattle.request_codec.specs.Limits.{depth_limit, state_limit}
use Rattle.request_codec.specs.Spelling.{IsBelowFirst}
use Rattle.request_codec.specs.Tree as tree
use Rattle.request_codec.specs.Tree.{Tree, depth, fields_depth, Fields, no_fields, field}
use Rattle.turn_arena.specs.Fields.{by_order, fields_in, field_put, value_put}
use Rattle.grain_logic.specs.Laws.{FitsState, FitsField}
use Rattle.grain_logic.specs.Shared.{keeps}

order-back : (m n : List ℕ) (o : Ordering) → slice_cmp nat_cmp m n ≡ o → slice_cmp nat_cmp n m ≡ ordering_reverse o
order-back m n o e = nat_list_cmp_total.antisymm n m ∙ ap ordering_reverse e

pub by_order_holds : {A : Type 0} (P : A → Type 0) (o : Ordering) (before here behind : A) → (o ≡ Less → P before) → (o ≡ Equal → P here)
    → (o ≡ Greater → P behind) → P (by_order o before here behind)
by_order_holds P Less before here behind l e g = l refl
by_order_holds P Equal before here behind l e g = e refl
by_order_holds P Greater before here behind l e g = g refl

below_put : (m n : List ℕ) (v : Tree) (fs : Fields) → IsTrue (is_lt (slice_cmp nat_cmp m n)) → IsBelowFirst m fs
    → IsBelowFirst m (field_put n v fs)
below_put m n v no_fields lt h = lt
below_put m n v (field k w fs) lt h = by_order_holds (IsBelowFirst m) (slice_cmp nat_cmp n k) _ _ _ (λ less. lt) (λ same. lt) (λ greater. h)

put_formed : (n : List ℕ) (v : Tree) (fs : Fields) → IsUtf8 n → IsFormed v → FieldsFormed fs → FieldsFormed (field_put n v fs)
put_formed n v no_fields named formed h = (named, formed, tt, tt)
put_formed n v (field m w fs) named formed h =
    by_order_holds FieldsFormed (slice_cmp nat_cmp n m) _ _ _
    (λ less. (named, formed, ap is_lt less, h))
    (λ same. (
      named,
      formed,
      subst (λ (k : List ℕ). IsBelowFirst k fs)
          (sym (slice_cmp-IsAntisymmetric nat_cmp-IsAntisymmetric n m same)) h.2,
      h.3,
    ))
    (λ greater. (h.0, h.1, below_put m n v fs (ap is_lt (order-back n m Greater greater)) h.2, put_formed n v fs named formed h.3))

put_depth : (n : List ℕ) (v : Tree) (fs : Fields) → fields_depth (field_put n v fs) ≤ max (depth v) (fields_depth fs)
put_depth n v no_fields = omega arith
put_depth n v (field m w fs) =
    let deeper = put_depth n v fs in
    by_order_holds (λ (gs : Fields). fields_depth gs ≤ max (depth v) (fields_depth (field m w fs))) (slice_cmp nat_cmp n m) _ _ _
    (λ less. omega arith) (λ same. omega arith) (λ greater. omega arith)

pub record FieldsFit (fs : Fields) : Type 0 where
  pub formed : FieldsFormed fs
  pub depth_within : fields_depth fs ≤ 31
  pub length_within : 5 + fields_length fs ≤ state_limit

no_fields_fit : FieldsFit no_fields
no_fields_fit = record { formed = tt; depth_within = omega arith; length_within = omega arith }

pub fields_fit : (state : Tree) → FitsState state → FieldsFit (fields_in state)
fields_fit (tree.map fs) h = record { formed = h.formed; depth_within = omega (arith, h.depth_within); length_within = h.length_within }
fields_fit tree.null h = no_fields_fit
fields_fit (tree.truth b) h = no_fields_fit
fields_fit (tree.integer i) h = no_fields_fit
fields_fit (tree.text s) h = no_fields_fit
fields_fit (tree.list vs) h = no_fields_fit
fields_fit (tree.bytes b) h = no_fields_fit

-- the state with a field set keeps the form and the depth of a state, where the field's value is one level less deep
pub put_fits : (state : Tree) (n : List ℕ) (v : Tree) → FitsState state → IsUtf8 n → FitsField v
    → IsFormed (value_put n v state) × (depth (value_put n v state) ≤ depth_limit)
put_fits state n v fits named value =
    let fields = fields_fit state fits in (
      put_formed n v (fields_in state) named value.formed fields.formed,
      omega
          (arith, put_depth n v (fields_in state), value.depth_within, fields.depth_within),
    )
