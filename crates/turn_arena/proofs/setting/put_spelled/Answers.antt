use Rattle.std.proofs.Common.{◌≡◌, ◌≤◌, false, true, List, length, Some, None, ap, sym, subst, ◌∙◌, arith}
use Rattle.std.proofs.lemmas.Bool.{lt-ltb, le-ltb}
use Rattle.std.specs.Prelude.{ℕ, Bool, nat_lt, if◌then◌else◌}
use Rattle.request_codec.proofs.Spelled.{length-spelling}
use Rattle.request_codec.proofs.Whole.{state_is_some}
use Rattle.request_codec.proofs.Encoded.{encoded_state, same_found}
use Rattle.request_codec.specs.Answers.{spelled_length}
use Rattle.request_codec.specs.Call.{state_value}
use Rattle.request_codec.specs.Limits.{state_limit}
use Rattle.request_codec.specs.Written.{spelling}
use Rattle.turn_arena.specs.Fields.{fields_in, value_put}
use Rattle.turn_arena.specs.NodeValue.{node_value}
use Rattle.turn_arena.proofs.NamePlaces.{put_written}
use Rattle.turn_arena.proofs.setting.put_spelled.Goals as goal

pub from_spelling-requires : goal.from_spelling-requires
from_spelling-requires c =
    let items = c.in-Ok.bytes.items in
    let made = value_put c.args.name.now (node_value c.args.value) c.args.state.now in
    let written = put_written c.args.name.now (node_value c.args.value) (fields_in c.args.state.now) c.place_of-place.result c.place_of-place.ensures in
    state_is_some items made (encoded_state items made (c.requires.shallow, c.requires.formed) (subst (λ b. (items ≡ b) × (length b ≤ state_limit)) written c.in-Ok.ensures))

pub returns-in_ok-from_spelling-in-Ok : goal.returns-in_ok-from_spelling-in-Ok
returns-in_ok-from_spelling-in-Ok c =
    let items = c.in-Ok.bytes.items in
    let made = value_put c.args.name.now (node_value c.args.value) c.args.state.now in
    let written = put_written c.args.name.now (node_value c.args.value) (fields_in c.args.state.now) c.place_of-place.result c.place_of-place.ensures in
    let is : (items ≡ spelling made) × (length (spelling made) ≤ state_limit) = subst (λ b. (items ≡ b) × (length b ≤ state_limit)) written c.in-Ok.ensures in
    let short : nat_lt state_limit (spelled_length made) ≡ false = le-ltb _ _ (omega (arith, is.1, length-spelling made)) in
    ap Some (same_found (state_value items) c.in_ok-from_spelling-in-Ok.field-0 made c.in_ok-from_spelling-in-Ok.ensures (encoded_state items made (c.requires.shallow, c.requires.formed) is))
    ∙ sym (ap (λ (b : Bool). if b then None else Some made) short)

pub returns-in-Err-TooLong : goal.returns-in-Err-TooLong
returns-in-Err-TooLong c =
    let made = value_put c.args.name.now (node_value c.args.value) c.args.state.now in
    let written = put_written c.args.name.now (node_value c.args.value) (fields_in c.args.state.now) c.place_of-place.result c.place_of-place.ensures in
    let above = rw c.in-Err-TooLong.field-0-is at c.in-Err-TooLong.ensures in
    let long : nat_lt state_limit (spelled_length made) ≡ true = lt-ltb _ _ (omega (arith, above, ap (λ (b : List ℕ). length b) written, length-spelling made)) in
    sym (ap (λ (b : Bool). if b then None else Some made) long)
