-- What the kinds share: the forms of a plan, the shapes of arguments, and the methods of every kind.
--
--   method   argument   state   answer
--   save     null       kept    what comes of writing the state
--   reload   null       kept    what comes of reading the row
--   clear    null       kept    what comes of clearing the row
--
-- These ask the storage: the plan's own value is null, and the caller is told what came of the storage's call.
use Rattle.std.specs.Prelude.{ℕ, Bool, true, false, List, [], Option, Some, None, Result, Ok, Err, ℤ, ◌&&◌, if◌then◌else◌, codes}
use Rattle.std.specs.Prelude.{option_map, option_and_then}
use Rattle.grain_id.specs.Names.{same_text}
use Rattle.request_codec.specs.Tree as tree
use Rattle.request_codec.specs.Tree.{Tree, null, integer, text, field, no_fields}
use Rattle.grain_logic.specs.declared.fault.MethodFault.{MethodFault}
use Rattle.grain_logic.specs.declared.fault.MethodFault.TheVariants.{UnknownMethod, Misfit}
use Rattle.grain_logic.specs.Logic.{Plan, Keep, same, StorageCall, asks_nothing, reads_row, writes_row, clears_row}

-- ---- forms of a plan

-- the state stays
abbrev pub keeps : Tree → Result Tree MethodFault → Plan
keeps state outcome = record { state = state; outcome = outcome; storage = asks_nothing; sends = []; keep = same }

-- the state changes, and the value is the answer
abbrev pub becomes : Tree → Tree → Plan
becomes state value = record { state = state; outcome = Ok value; storage = asks_nothing; sends = []; keep = same }

-- the state stays, the answer is null, and something is said of the activation
abbrev pub says : Keep → Tree → Plan
says keep state = record { state = state; outcome = Ok null; storage = asks_nothing; sends = []; keep = keep }

-- the storage is asked
abbrev pub asks_storage : StorageCall → Tree → Plan
asks_storage call state = record { state = state; outcome = Ok null; storage = call; sends = []; keep = same }

-- the plan for what the argument holds, where it has the method's shape
abbrev pub for_shape : {A : Type 0} → Tree → Option A → (A → Plan) → Plan
for_shape state None plan = keeps state (Err Misfit)
for_shape state (Some held) plan = plan held

abbrev pub is_null : Tree → Bool
is_null null = true
is_null _ = false

-- the plan, where the argument is null
abbrev pub for_null : Tree → Tree → Plan → Plan
for_null state argument plan = if is_null argument then plan else keeps state (Err Misfit)

-- ---- shapes of arguments

-- the whole number that a value is
abbrev pub integer_value : Tree → Option ℤ
integer_value (integer i) = Some i
integer_value _ = None

-- the text that a value is
abbrev pub text_value : Tree → Option (List ℕ)
text_value (text s) = Some s
text_value _ = None

-- the value of the only field, where it has this name
abbrev pub only_field : List ℕ → Tree → Option Tree
only_field name (tree.map (field n v no_fields)) = if same_text n name then Some v else None
only_field name _ = None

-- the values of the only two fields, where they have these names
abbrev pub only_fields : List ℕ → List ℕ → Tree → Option (Tree × Tree)
only_fields first second (tree.map (field n v (field m w no_fields))) =
    if same_text n first && same_text m second then Some (v, w) else None
only_fields first second _ = None

-- `{"name": int}`
abbrev pub integer_field : List ℕ → Tree → Option ℤ
integer_field name argument = option_and_then integer_value (only_field name argument)

-- `{"name": text}`
abbrev pub text_field : List ℕ → Tree → Option (List ℕ)
text_field name argument = option_and_then text_value (only_field name argument)

-- `{first: text, second: any}`: the text and the value
abbrev pub text_and_value : List ℕ → List ℕ → Tree → Option (List ℕ × Tree)
text_and_value first second argument =
    option_and_then (λ values. option_map (λ held. (held, values.1)) (text_value values.0)) (only_fields first second argument)

-- ---- the methods of every kind

unfoldable pub shared_plan : List ℕ → Tree → Tree → Plan
shared_plan method state argument =
    if same_text method (codes "save") then for_null state argument (asks_storage writes_row state)
    else if same_text method (codes "reload") then for_null state argument (asks_storage reads_row state)
    else if same_text method (codes "clear") then for_null state argument (asks_storage clears_row state)
    else keeps state (Err UnknownMethod)
