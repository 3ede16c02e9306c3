-- Methods that do no more than set a field of the state, or add a number to it.
use Rattle.std.specs.Prelude.{◌≡◌, ℕ, true, List, Some, ℤ}
use Rattle.grain_id.specs.Names.{same_text}
use Rattle.request_codec.specs.Tree as tree
use Rattle.request_codec.specs.Tree.{Tree, integer, field, no_fields}
use Rattle.grain_logic.specs.Adding.{adds_number}
use Rattle.grain_logic.specs.Logic.{Plan}
use Rattle.grain_logic.specs.Setting.{sets_field}
use Rattle.grain_logic.specs.Shared.{text_and_value}
use Rattle.grain_logic.specs.declared.shortcut.Shortcut.{Shortcut}
use Rattle.grain_logic.specs.declared.shortcut.Shortcut.TheVariants as shortcut

-- The method with these plans does what the shortcut says, whatever the state.
abbrev pub IsShortcut : (Tree → Tree → Plan) → Shortcut → Type 0
IsShortcut plan shortcut.None = Unit {0}
IsShortcut plan (shortcut.Sets first second) =
    (state argument : Tree) (held : List ℕ × Tree) → text_and_value first.now second.now argument ≡ Some held
    → plan state argument ≡ sets_field state held
IsShortcut plan (shortcut.Adds by) =
    (name : List ℕ) → same_text name by.now ≡ true → (state : Tree) (number : ℤ)
    → plan state (tree.map (field name (integer number) no_fields)) ≡ adds_number state number
