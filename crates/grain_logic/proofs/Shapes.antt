-- The fields of an argument, by how many there are.
use Rattle.std.proofs.Common.{◌≡◌, ℕ, ◌≤◌, ◌<◌, Bool, true, false, List, [], ◌∷◌, length, get_or, Option, Some, None, refl, arith}
use Rattle.std.specs.Prelude.{◌&&◌, if◌then◌else◌}
use Rattle.grain_id.specs.Names.{same_text}
use Rattle.request_codec.specs.Tree as tree
use Rattle.request_codec.specs.Tree.{Tree}
use Rattle.turn_arena.specs.NodeValue.{node_value, field_values}
use Rattle.turn_arena.specs.declared.node.Field.{Field}
use Rattle.grain_logic.specs.Shared.{only_field, only_fields}

pub only_field-many : (name : List ℕ) (fs : List Field) → 2 ≤ length fs → only_field name (tree.map (field_values fs)) ≡ None
only_field-many name [] least = refl
only_field-many name (f ∷ []) least = absurd (omega arith)
only_field-many name (f ∷ g ∷ fs) least = refl

pub only_fields-one : (first second : List ℕ) (fs : List Field) → length fs < 2 → only_fields first second (tree.map (field_values fs)) ≡ None
only_fields-one first second [] most = refl
only_fields-one first second (f ∷ []) most = refl
only_fields-one first second (f ∷ g ∷ fs) most = absurd (omega arith)

pub only_fields-many : (first second : List ℕ) (fs : List Field) → 3 ≤ length fs → only_fields first second (tree.map (field_values fs)) ≡ None
only_fields-many first second [] least = refl
only_fields-many first second (f ∷ []) least = refl
only_fields-many first second (f ∷ g ∷ []) least = absurd (omega arith)
only_fields-many first second (f ∷ g ∷ h ∷ fs) least = refl

-- two values, each there if its name is the one asked for
both : (b d : Bool) (v w x y : Tree) → Some x ≡ (if b then Some v else None) → Some y ≡ (if d then Some w else None) → ◌≡◌ {A = Option (Tree × Tree)} (Some (x, y)) (if b && d then Some (v, w) else None)
both true true v w x y h k = cc
both true false v w x y h k = cc
both false d v w x y h k = cc

pub only_fields-two : (first second : List ℕ) (fs : List Field) (other : Field) (x y : Tree) → 2 ≤ length fs → length fs < 3
    → Some x ≡ (if same_text (get_or fs 0 other).name.now first then Some (node_value (get_or fs 0 other).node) else None)
    → Some y ≡ (if same_text (get_or fs 1 other).name.now second then Some (node_value (get_or fs 1 other).node) else None)
    → ◌≡◌ {A = Option (Tree × Tree)} (Some (x, y)) (only_fields first second (tree.map (field_values fs)))
only_fields-two first second [] other x y least most h k = absurd (omega arith)
only_fields-two first second (f ∷ []) other x y least most h k = absurd (omega arith)
only_fields-two first second (f ∷ g ∷ []) other x y least most h k = both (same_text f.name.now first) (same_text g.name.now second) (node_value f.node) (node_value g.node) x y h k
only_fields-two first second (f ∷ g ∷ e ∷ fs) other x y least most h k = absurd (omega arith)
