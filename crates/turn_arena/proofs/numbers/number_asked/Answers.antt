use Rattle.std.proofs.Common.{refl, sym, ap, ◌∙◌}
use Rattle.std.specs.Prelude.{Some, is_some}
use Rattle.request_codec.specs.Call.{Call, message_call}
use Rattle.request_codec.specs.Limits.{depth_limit}
use Rattle.request_codec.specs.Reading.{value_at}
use Rattle.request_codec.specs.Tree as tree
use Rattle.request_codec.specs.Tree.{integer, field, no_fields}
use Rattle.turn_arena.proofs.NumberFound.{asked_value}
use Rattle.turn_arena.proofs.numbers.number_asked.Goals as goal

pub known_call-requires : goal.known_call-requires
known_call-requires c = ap is_some c.bytes.ensures.reads

pub returns-in_err-name-clause-none : goal.returns-in_err-name-clause-none
returns-in_err-name-clause-none c = λ none method name number is.
    let argument = c.known_call.result.1.now in
    let asked = c.bytes.ensures.reads ∙ ap (λ (m : Call). Some m) is in
    let held = asked_value (value_at depth_limit argument) c.known_call.ensures.stands (message_call c.bytes.result.now) c.known_call.result.0.now c.known_call.ensures.asked
    method (tree.map (field name (integer number) no_fields)) asked in
    c.in_err-name.ensures.none refl name number held.0 held.1
