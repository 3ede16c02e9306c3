-- Grains of the kind `note`: each holds one value, null at first.
--
--   method   state          answer
--   get      kept           the value
--   put      the argument   null
--   save     kept           what comes of writing the state
use Rattle.std.specs.Prelude.{ℕ, Bool, List, Ok, Err, codes, if◌then◌else◌}
use Rattle.grain_id.specs.Names.{same_text}
use Rattle.request_codec.specs.Tree.{Tree, null}
use Rattle.grain_logic.specs.Logic.{Logic, Plan, writes_row}
use Rattle.grain_logic.specs.Shared.{keeps, becomes, asks_storage}
use Rattle.grain_logic.specs.declared.fault.MethodFault.TheVariants.{UnknownMethod}

abbrev pub is_get : List ℕ → Bool
is_get method = same_text method (codes "get")

abbrev pub is_put : List ℕ → Bool
is_put method = same_text method (codes "put")

abbrev pub is_save : List ℕ → Bool
is_save method = same_text method (codes "save")

abbrev pub note_plan : List ℕ → Tree → Tree → Plan
note_plan method state argument =
    if is_get method then keeps state (Ok state)
    else if is_put method then becomes argument null
    else if is_save method then asks_storage writes_row state
    else keeps state (Err UnknownMethod)

-- the logic of notes
abbrev pub notes : Logic
notes = record {
  knows = λ kind. same_text kind (codes "note");
  is_read = λ kind. is_get;
  empty = λ kind. null;
  plan = λ kind. note_plan;
}
