use Rattle.std.proofs.Common.{◌≤◌, arith}
use Rattle.std.proofs.lemmas.Result.{err_from_is_err_and}
use Rattle.request_codec.specs.Limits.{state_limit}
use Rattle.request_codec.specs.Call.{state_value}
use Rattle.request_codec.specs.Written.{spelling}
use Rattle.request_codec.specs.Answers.{spelled_length}
use Rattle.request_codec.proofs.PartAnswers.{Writes-fault}
use Rattle.request_codec.proofs.Spelled.{length-spelling}
use Rattle.request_codec.proofs.Whole.{state_is_some}
use Rattle.request_codec.proofs.Encoded.{encoded_state, same_found}
use Rattle.request_codec.proofs.writing.state_of.Goals as goal

pub returns-in_err-state_bytes : goal.returns-in_err-state_bytes
returns-in_err-state_bytes g c =
    let p = err_from_is_err_and c.from_residual.result c.from_residual.ensures.1 in
    let v = g.V.Shown.value c.args.value in
    rw (p.1, p.2) (Writes-fault c.in_err-state_bytes.field-0.0 v v (spelled_length v) state_limit (spelling v) c.if-not-is_within.ensures.0 (length-spelling v) c.in_err-state_bytes.ensures)

pub from_spelling-requires : goal.from_spelling-requires
from_spelling-requires g c =
    let items = c.in_ok-state_bytes.field-0.items in
    let v = g.V.Shown.value c.args.value in
    state_is_some items v (encoded_state items v c.if-not-is_within.ensures c.in_ok-state_bytes.ensures)

pub returns : goal.returns
returns g c =
    let items = c.in_ok-state_bytes.field-0.items in
    let v = g.V.Shown.value c.args.value in
    let short : spelled_length v ≤ state_limit = omega (arith, c.in_ok-state_bytes.ensures.1, length-spelling v) in
    (same_found (state_value items) c.in_ok-from_spelling.field-0 v c.in_ok-from_spelling.ensures (encoded_state items v c.if-not-is_within.ensures c.in_ok-state_bytes.ensures), c.if-not-is_within.ensures.0, short)
