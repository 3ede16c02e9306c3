-- No bytes spell two values, no spelling is a proper prefix of another, and no value has two spellings.
use Rattle.std.proofs.Common.{◌≡◌, ℕ, zero, suc, ◌≤◌, true, false, List, [], ◌∷◌, ◌++◌, Some, refl, sym, ap, ◌∙◌, arith}
use Rattle.std.specs.Prelude.{max}
use Rattle.std.specs.Int.{w32, to_be_bytes}
use Rattle.std.proofs.Math.Nat.{le-max_left, le-max_right}
use Rattle.std.proofs.lemmas.Option.{some_pair_parts}
use Rattle.std.proofs.lemmas.List.{append-nil}
use Rattle.request_codec.specs.Tree as tree
use Rattle.request_codec.specs.Tree.{Tree, null, truth, integer, text, list, map, Members, no_members, member, Fields, no_fields, field, members_count, fields_count, depth}
use Rattle.request_codec.specs.Spelling.{SpellsText, Spells, SpellEach, SpellFields}
use Rattle.request_codec.specs.Reading.{value_at}
use Rattle.request_codec.proofs.SpellingsRead.{depth_positive, value_again}

-- what is read is determined, at any depth that is enough for both
pub value_again_within : (v : Tree) (d : ℕ) (a x : List ℕ) → Spells v a → depth v ≤ d → value_at d (a ++ x) ≡ Some (v, x)
value_again_within v zero a x h le = absurd (omega (arith, depth_positive v))
value_again_within v (suc d) a x h le = value_again v d a x h le

pub one_front : (v w : Tree) (a b x y : List ℕ) → Spells v a → Spells w b → a ++ x ≡ b ++ y → (v ≡ w) × (x ≡ y)
one_front v w a b x y spells_v spells_w e =
    let first = value_again_within v (max (depth v) (depth w)) a x spells_v (le-max_left (depth v) (depth w)) in
    let second = value_again_within w (max (depth v) (depth w)) b y spells_w (le-max_right (depth v) (depth w)) in
    let same : Some (v, x) ≡ Some (w, y) = sym first ∙ ap (λ (bytes : List ℕ). value_at (max (depth v) (depth w)) bytes) e ∙ second in
    some_pair_parts v w x y same

-- no spelling is a proper prefix of another, and no bytes spell two values
pub no_prefix_law : (v w : Tree) (a more : List ℕ) → Spells v a → Spells w (a ++ more) → (more ≡ []) × (v ≡ w)
no_prefix_law v w a more spells_v spells_w =
    let parts = one_front v w a (a ++ more) more [] spells_v spells_w (sym (append-nil (a ++ more))) in
    (parts.1, parts.0)

-- a value has at most one spelling
text_once : (s a b : List ℕ) → SpellsText s a → SpellsText s b → a ≡ b
text_once s a b h k = h.2 ∙ sym k.2

mutual
  pub spelled_once : (v : Tree) (a b : List ℕ) → Spells v a → Spells v b → a ≡ b
  spelled_once null a b h k = h ∙ sym k
  spelled_once (truth false) a b h k = h ∙ sym k
  spelled_once (truth true) a b h k = h ∙ sym k
  spelled_once (integer i) a b h k = h.1 ∙ sym k.1
  spelled_once (text s) a b h k = h.2 ∙ ap (λ (x : List ℕ). 4 ∷ x) (text_once s h.0 k.0 h.1 k.1) ∙ sym k.2
  spelled_once (list vs) a b h k = h.3 ∙ ap (λ (x : List ℕ). 5 ∷ (to_be_bytes w32 (members_count vs) ++ x)) (each_once vs h.0 k.0 h.2 k.2) ∙ sym k.3
  spelled_once (tree.bytes c) a b h k = h.2 ∙ sym k.2
  spelled_once (map fs) a b h k = h.3 ∙ ap (λ (x : List ℕ). 6 ∷ (to_be_bytes w32 (fields_count fs) ++ x)) (fields_once fs h.0 k.0 h.2 k.2) ∙ sym k.3

  pub each_once : (vs : Members) (a b : List ℕ) → SpellEach vs a → SpellEach vs b → a ≡ b
  each_once no_members a b h k = h ∙ sym k
  each_once (member v vs) a b h k = h.4 ∙ (λ i. spelled_once v h.0 k.0 h.2 k.2 i ++ each_once vs h.1 k.1 h.3 k.3 i) ∙ sym k.4

  pub fields_once : (fs : Fields) (a b : List ℕ) → SpellFields fs a → SpellFields fs b → a ≡ b
  fields_once no_fields a b h k = h ∙ sym k
  fields_once (field n v fs) a b h k = h.7 ∙ (λ i. text_once n h.0 k.0 h.3 k.3 i ++ spelled_once v h.1 k.1 h.4 k.4 i ++ fields_once fs h.2 k.2 h.5 k.5 i) ∙ sym k.7

-- no bytes spell two values
pub one_value : (v w : Tree) (bytes : List ℕ) → Spells v bytes → Spells w bytes → v ≡ w
one_value v w bytes spells_v spells_w = (one_front v w bytes bytes [] [] spells_v spells_w refl).0
