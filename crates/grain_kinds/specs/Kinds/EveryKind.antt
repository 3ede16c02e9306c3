-- The methods of every kind.
--
--   method   since   argument        state   answer
--   rest     2       null            kept    null; the activation rests
--   stay     2       {"for": int}    kept    null; the activation stays for so many milliseconds, 1 to 86,400,000: else Misfit
--   save     1       null            kept    what comes of writing the state
--   reload   1       null            kept    what comes of reading the row
--   clear    1       null            kept    what comes of clearing the row
pub mod Laws
use Rattle.std.specs.Prelude.{ℕ, ◌&&◌, nat_le, ℤ, pos, negsuc, List, [], ◌∷◌, Option, Some, None, option_and_then, if◌then◌else◌, codes}
use Rattle.request_codec.specs.Tree.{Tree}
use Rattle.grain_logic.specs.Laws.{stay_limit}
use Rattle.grain_logic.specs.Logic.{Plan, rest, stay, writes_row, reads_row, clears_row}
use Rattle.grain_logic.specs.Shared.{says, asks_storage, for_null, for_shape, integer_field}
use Rattle.grain_logic.specs.Tables.{Method, changes}

-- a number that is not below 0
abbrev pub natural : ℤ → Option ℕ
natural (pos n) = Some n
natural (negsuc n) = None

-- a time that an activation may stay: a millisecond to a day
abbrev pub stay_time : ℕ → Option ℕ
stay_time time = if nat_le 1 time && nat_le time stay_limit then Some time else None

-- the time in `{"for": int}`
abbrev pub stay_argument : Tree → Option ℕ
stay_argument argument = option_and_then stay_time (option_and_then natural (integer_field (codes "for") argument))

abbrev pub rest_plan : Tree → Tree → Plan
rest_plan state argument = for_null state argument (says rest state)

abbrev pub stay_plan : Tree → Tree → Plan
stay_plan state argument = for_shape state (stay_argument argument) (λ time. says (stay time) state)

abbrev pub stored : List Method
stored =
    changes (codes "save") 1 (λ state argument. for_null state argument (asks_storage writes_row state))
    ∷ changes (codes "reload") 1 (λ state argument. for_null state argument (asks_storage reads_row state))
    ∷ changes (codes "clear") 1 (λ state argument. for_null state argument (asks_storage clears_row state)) ∷ []

unfoldable pub every_kind : List Method
every_kind = changes (codes "rest") 2 rest_plan ∷ changes (codes "stay") 2 stay_plan ∷ stored
