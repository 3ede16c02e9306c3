-- The kind `counter`: a whole number of 64 bits. A state that is no whole number counts as 0.
--
--   method   since   argument       state   answer
--   add      1       {"by": int}    the sum of the number and `by`, if it is one of 64 bits   that sum, otherwise OutOfRange
--   get      1       null           kept    the number
pub mod Laws
use Rattle.std.specs.Prelude.{List, ◌∷◌, pos, codes}
use Rattle.request_codec.specs.Tree.{integer}
use Rattle.grain_logic.specs.Adding.{adds_number}
use Rattle.grain_logic.specs.Counters.{get_plan}
use Rattle.grain_logic.specs.Shared.{for_shape, for_null, integer_field}
use Rattle.grain_logic.specs.Tables.{Kind, Method, changes, reads}
use Rattle.grain_kinds.specs.Kinds.EveryKind.{every_kind}

unfoldable pub counter_methods : List Method
counter_methods =
    changes (codes "add") 1 (λ state argument. for_shape state (integer_field (codes "by") argument) (adds_number state))
    ∷ reads (codes "get") 1 (λ state argument. for_null state argument (get_plan state)) ∷ every_kind

abbrev pub counter : Kind
counter = record { word = codes "counter"; since = 1; empty = integer (pos 0); methods = counter_methods }
