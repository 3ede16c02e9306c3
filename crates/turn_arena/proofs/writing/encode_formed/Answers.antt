use Rattle.std.proofs.Common.{◌<◌, length, arith}
use Rattle.request_codec.proofs.Spelled.{length-spelling}
use Rattle.request_codec.proofs.Whole.{state_is_some}
use Rattle.request_codec.specs.Call.{state_value}
use Rattle.request_codec.specs.Limits.{state_limit}
use Rattle.request_codec.specs.Written.{spelling}
use Rattle.request_codec.proofs.Encoded.{encoded_state, same_found}
use Rattle.turn_arena.specs.NodeValue.{node_value}
use Rattle.turn_arena.proofs.writing.encode_formed.Goals as goal

pub unreachable-requires : goal.unreachable-requires
unreachable-requires c =
    let v = node_value c.args.node in
    let long : state_limit < length (spelling v) = rw c.in-Err-TooLong.field-0-is at c.in-Err-TooLong.ensures in
    omega (arith, long, length-spelling v, c.requires.short)

pub from_spelling-requires : goal.from_spelling-requires
from_spelling-requires c =
    let v = node_value c.args.node in
    state_is_some c.in-Ok.bytes.items v (encoded_state c.in-Ok.bytes.items v (c.requires.shallow, c.requires.formed) c.in-Ok.ensures)

pub returns-in_ok-from_spelling-in-Ok : goal.returns-in_ok-from_spelling-in-Ok
returns-in_ok-from_spelling-in-Ok c =
    let items = c.in-Ok.bytes.items in
    let v = node_value c.args.node in
    same_found (state_value items) c.in_ok-from_spelling-in-Ok.field-0 v c.in_ok-from_spelling-in-Ok.ensures (encoded_state items v (c.requires.shallow, c.requires.formed) c.in-Ok.ensures)
