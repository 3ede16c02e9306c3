use Rattle.std.proofs.Common.{◌≤◌, arith}
use Rattle.std.proofs.lemmas.Result.{err_from_is_err_and}
use Rattle.request_codec.specs.Limits.{message_limit}
use Rattle.request_codec.specs.Call.{asks, message_call}
use Rattle.request_codec.specs.Written.{message_spelling}
use Rattle.request_codec.specs.Answers.{message_length}
use Rattle.request_codec.proofs.PartAnswers.{Writes-fault}
use Rattle.request_codec.proofs.Spelled.{length-message}
use Rattle.request_codec.proofs.Whole.{message_is_some}
use Rattle.request_codec.proofs.Encoded.{encoded_message, same_found}
use Rattle.request_codec.proofs.writing.message_of.Goals as goal

pub returns-in_err-message_bytes : goal.returns-in_err-message_bytes
returns-in_err-message_bytes g c =
    let p = err_from_is_err_and c.from_residual.result c.from_residual.ensures.1 in
    let method = c.args.method.now in
    let v = g.V.Shown.value c.args.argument in
    rw (p.1, p.2) (Writes-fault c.in_err-message_bytes.field-0.0 (asks method v) v (message_length method v) message_limit (message_spelling (asks method v)) c.if-not-is_within.ensures.0 (length-message method v) c.in_err-message_bytes.ensures)

pub from_spelling-requires : goal.from_spelling-requires
from_spelling-requires g c =
    let items = c.in_ok-message_bytes.field-0.items in
    let v = g.V.Shown.value c.args.argument in
    message_is_some items (asks c.args.method.now v) (encoded_message items c.args.method.now v c.utf8.method c.if-not-is_within.ensures c.in_ok-message_bytes.ensures)

pub returns : goal.returns
returns g c =
    let items = c.in_ok-message_bytes.field-0.items in
    let method = c.args.method.now in
    let v = g.V.Shown.value c.args.argument in
    let short : message_length method v ≤ message_limit = omega (arith, c.in_ok-message_bytes.ensures.1, length-message method v) in
    (same_found (message_call items) c.in_ok-from_spelling.field-0 (asks method v) c.in_ok-from_spelling.ensures (encoded_message items method v c.utf8.method c.if-not-is_within.ensures c.in_ok-message_bytes.ensures), c.if-not-is_within.ensures.0, short)
