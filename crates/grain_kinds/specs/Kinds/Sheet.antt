-- The kind `sheet`: values by name. A state that is no map counts as the empty one.
--
--   method   since   argument                       state                  answer
--   put      1       {"name": text, "value": any}   the name set to it     null, or TooLarge where the state would be above 262,144 bytes
--   get      1       {"name": text}                 kept                   its value, or null
--   drop     1       {"name": text}                 the name left out      whether it was there
--   list     1       null                           kept                   the names, ascending
pub mod Laws
use Rattle.std.specs.Prelude.{ℕ, List, ◌∷◌, Option, Some, None, Ok, is_some, if◌then◌else◌, codes}
use Rattle.std.specs.Option.{unwrap_or}
use Rattle.grain_id.specs.Names.{same_text}
use Rattle.request_codec.specs.Tree as tree
use Rattle.request_codec.specs.Tree.{Tree, null, truth, text, list, Members, no_members, member, Fields, no_fields, field}
use Rattle.turn_arena.specs.Fields.{fields_in, field_dropped}
use Rattle.grain_logic.specs.Logic.{Plan}
use Rattle.grain_logic.specs.Shared.{keeps, becomes, for_shape, for_null, text_field, text_and_value}
use Rattle.grain_logic.specs.Setting.{sets_field}
use Rattle.grain_logic.specs.Tables.{Kind, Method, changes, reads}
use Rattle.grain_kinds.specs.Kinds.EveryKind.{every_kind}

-- the value of this name, where there is one
abbrev pub value_in : List ℕ → Fields → Option Tree
value_in name no_fields = None
value_in name (field n v fs) = if same_text n name then Some v else value_in name fs

-- the names, in their order
abbrev pub names_in : Fields → Members
names_in no_fields = no_members
names_in (field n v fs) = member (text n) (names_in fs)

abbrev pub get_plan : Tree → List ℕ → Plan
get_plan state name = keeps state (Ok (unwrap_or (value_in name (fields_in state)) null))

abbrev pub drop_plan : Tree → List ℕ → Plan
drop_plan state name = becomes (tree.map (field_dropped name (fields_in state))) (truth (is_some (value_in name (fields_in state))))

abbrev pub list_plan : Tree → Plan
list_plan state = keeps state (Ok (list (names_in (fields_in state))))

-- `{"name": text, "value": any}`
abbrev pub put_argument : Tree → Option (List ℕ × Tree)
put_argument argument = text_and_value (codes "name") (codes "value") argument

unfoldable pub sheet_methods : List Method
sheet_methods =
    changes (codes "put") 1 (λ state argument. for_shape state (put_argument argument) (sets_field state))
    ∷ reads (codes "get") 1 (λ state argument. for_shape state (text_field (codes "name") argument) (get_plan state))
    ∷ changes (codes "drop") 1 (λ state argument. for_shape state (text_field (codes "name") argument) (drop_plan state))
    ∷ reads (codes "list") 1 (λ state argument. for_null state argument (list_plan state)) ∷ every_kind

abbrev pub sheet : Kind
sheet = record { word = codes "sheet"; since = 1; empty = tree.map no_fields; methods = sheet_methods }
