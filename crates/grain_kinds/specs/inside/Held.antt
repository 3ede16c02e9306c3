-- What an argument holds, and that it keeps its limits.
use Rattle.std.proofs.Common.{◌≡◌, ℕ, ◌+◌, ◌≤◌, Bool, true, false, List, length, Option, Some, None, ap, subst, arith}
use Rattle.std.specs.Prelude.{IsUtf8, if◌then◌else◌, option_map, option_and_then}
use Rattle.std.proofs.lemmas.Option.{some_pair_parts, same_Some}
use Rattle.request_codec.specs.Answers.{spelled_length, message_length}
use Rattle.request_codec.specs.Call.{asks}
use Rattle.request_codec.specs.Formed.{IsFormed}
use Rattle.request_codec.specs.Limits.{message_limit}
use Rattle.request_codec.specs.Tree as tree
use Rattle.request_codec.specs.Tree.{Tree, depth, no_fields, field}
use Rattle.grain_logic.specs.Laws.{FitsMessage}
use Rattle.grain_logic.specs.Shared.{only_field, only_fields, text_value, text_field}

-- ---- two fields

-- an argument of two fields, and the values in them
pub record HoldsTwo (v w argument : Tree) : Type 0 where
  pub first : List ℕ
  pub second : List ℕ
  pub is : argument ≡ tree.map (field first v (field second w no_fields))

two_if : (b : Bool) (n m : List ℕ) (v w x y : Tree) → ◌≡◌ {A = Option (Tree × Tree)} (if b then Some (v, w) else None) (Some (x, y))
    → HoldsTwo x y (tree.map (field n v (field m w no_fields)))
two_if true n m v w x y e =
    let parts = some_pair_parts v x w y e in
    record { first = n; second = m; is = λ i. tree.map (field n (parts.0 i) (field m (parts.1 i) no_fields)) }
two_if false n m v w x y e = absurd cc

none_two : (x y argument : Tree) → ◌≡◌ {A = Option (Tree × Tree)} None (Some (x, y)) → HoldsTwo x y argument
none_two x y argument e = absurd cc

pub two_fields : (first second : List ℕ) (argument x y : Tree)
    → ◌≡◌ {A = Option (Tree × Tree)} (only_fields first second argument) (Some (x, y)) → HoldsTwo x y argument
two_fields first second (tree.map (field n v (field m w no_fields))) x y e = two_if _ n m v w x y e
two_fields first second (tree.map (field n v (field m w (field k u fs)))) x y e = none_two x y _ e
two_fields first second (tree.map (field n v no_fields)) x y e = none_two x y _ e
two_fields first second (tree.map no_fields) x y e = none_two x y _ e
two_fields first second tree.null x y e = none_two x y _ e
two_fields first second (tree.truth b) x y e = none_two x y _ e
two_fields first second (tree.integer i) x y e = none_two x y _ e
two_fields first second (tree.text s) x y e = none_two x y _ e
two_fields first second (tree.list vs) x y e = none_two x y _ e
two_fields first second (tree.bytes b) x y e = none_two x y _ e

-- the text that a value is
pub text_is : (v : Tree) (s : List ℕ) → text_value v ≡ Some s → v ≡ tree.text s
text_is (tree.text t) s e = ap tree.text (same_Some t s e)
text_is tree.null s e = absurd cc
text_is (tree.truth b) s e = absurd cc
text_is (tree.integer i) s e = absurd cc
text_is (tree.list vs) s e = absurd cc
text_is (tree.map fs) s e = absurd cc
text_is (tree.bytes b) s e = absurd cc

-- what two fields hold keeps limits of its own, where the call keeps those of a message
pub record TwoFit (method : List ℕ) (v w : Tree) : Type 0 where
  pub first_formed : IsFormed v
  pub second_formed : IsFormed w
  pub first_depth : depth v ≤ 31
  pub second_depth : depth w ≤ 31
  pub length_within : length method + (spelled_length v + spelled_length w) ≤ message_limit

pub two_fit : (method : List ℕ) (v w argument : Tree) → HoldsTwo v w argument → FitsMessage (asks method argument) → TwoFit method v w
two_fit method v w argument two fits =
    let formed = subst IsFormed two.is fits.argument_formed in
    let deep = ap depth two.is in
    let long = ap (message_length method) two.is in
    record {
      first_formed = formed.1;
      second_formed = formed.3.1;
      first_depth = omega (arith, deep, fits.depth_within);
      second_depth = omega (arith, deep, fits.depth_within);
      length_within = omega (arith, long, fits.length_within);
    }

-- ---- one field

one_if : (b : Bool) (n : List ℕ) (v x : Tree) → ◌≡◌ {A = Option Tree} (if b then Some v else None) (Some x) → IsUtf8 n × IsFormed v
    → IsFormed x
one_if true n v x e h = subst IsFormed (same_Some v x e) h.1
one_if false n v x e h = absurd cc

pub field_formed : (name : List ℕ) (argument x : Tree) → only_field name argument ≡ Some x → IsFormed argument → IsFormed x
field_formed name (tree.map (field n v no_fields)) x e h = one_if _ n v x e (h.0, h.1)
field_formed name (tree.map (field n v (field m w fs))) x e h = absurd cc
field_formed name (tree.map no_fields) x e h = absurd cc
field_formed name tree.null x e h = absurd cc
field_formed name (tree.truth b) x e h = absurd cc
field_formed name (tree.integer i) x e h = absurd cc
field_formed name (tree.text s) x e h = absurd cc
field_formed name (tree.list vs) x e h = absurd cc
field_formed name (tree.bytes b) x e h = absurd cc

text_of : (o : Option Tree) (s : List ℕ) → option_and_then text_value o ≡ Some s → o ≡ Some (tree.text s)
text_of None s e = absurd cc
text_of (Some v) s e = ap Some (text_is v s e)

pub text_formed : (name : List ℕ) (argument : Tree) (s : List ℕ) → text_field name argument ≡ Some s → IsFormed argument → IsUtf8 s
text_formed name argument s e h = field_formed name argument (tree.text s) (text_of (only_field name argument) s e) h

-- ---- a text beside a value

-- a text and what stands beside it
pub text_first : (v w : Tree) (s : List ℕ) (x : Tree)
    → ◌≡◌ {A = Option (List ℕ × Tree)} (option_map {U = List ℕ × Tree} (λ t. (t, w)) (text_value v)) (Some (s, x))
    → (v ≡ tree.text s) × (w ≡ x)
text_first (tree.text t) w s x e = let parts = some_pair_parts t s w x e in (ap tree.text parts.0, parts.1)
text_first tree.null w s x e = absurd cc
text_first (tree.truth b) w s x e = absurd cc
text_first (tree.integer i) w s x e = absurd cc
text_first (tree.list vs) w s x e = absurd cc
text_first (tree.map fs) w s x e = absurd cc
text_first (tree.bytes b) w s x e = absurd cc

pub text_second : (v w : Tree) (s : List ℕ) (x : Tree)
    → ◌≡◌ {A = Option (Tree × List ℕ)} (option_map {U = Tree × List ℕ} (λ t. (v, t)) (text_value w)) (Some (x, s))
    → (v ≡ x) × (w ≡ tree.text s)
text_second v (tree.text t) s x e = let parts = some_pair_parts v x t s e in (parts.0, ap tree.text parts.1)
text_second v tree.null s x e = absurd cc
text_second v (tree.truth b) s x e = absurd cc
text_second v (tree.integer i) s x e = absurd cc
text_second v (tree.list vs) s x e = absurd cc
text_second v (tree.map fs) s x e = absurd cc
text_second v (tree.bytes b) s x e = absurd cc
