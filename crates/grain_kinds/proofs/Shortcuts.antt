-- What a turn of a method is, where it is so little that it is made by bytes.
use Rattle.std.proofs.Common.{◌≡◌, true, List, ℕ, Some, refl}
use Rattle.std.specs.Prelude.{ℤ, codes}
use Rattle.grain_id.specs.Names.{same_text}
use Rattle.request_codec.specs.Tree as tree
use Rattle.request_codec.specs.Tree.{Tree, integer, field, no_fields}
use Rattle.grain_kinds.specs.Kinds.Counter.{counter_methods}
use Rattle.grain_kinds.specs.Kinds.Sheet.{sheet_methods}
use Rattle.grain_logic.specs.Adding.{adds_number}
use Rattle.grain_logic.specs.Setting.{sets_field}
use Rattle.grain_logic.specs.Shared.{text_and_value}
use Rattle.grain_logic.specs.Tables.{method_in, plan_by}

-- `add` adds the number that stands under `by`
pub adds : (method : List ℕ) → same_text method (codes "add") ≡ true → (name : List ℕ) → same_text name (codes "by") ≡ true
    → (state : Tree) (number : ℤ)
    → plan_by (method_in counter_methods method) state (tree.map (field name (integer number) no_fields)) ≡ adds_number state number
unfolding counter_methods
adds method is_add name is_by state number = rw (is_add, is_by) refl

-- `put` sets the field of the name to the value
pub puts : (method : List ℕ) → same_text method (codes "put") ≡ true → (state argument : Tree) (held : List ℕ × Tree)
    → text_and_value (codes "name") (codes "value") argument ≡ Some held
    → plan_by (method_in sheet_methods method) state argument ≡ sets_field state held
unfolding sheet_methods
puts method is_put state argument held is = rw (is_put, is) refl
