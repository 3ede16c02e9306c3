use Rattle.std.proofs.Common.{◌≤◌, subst, arith}
use Rattle.std.proofs.lemmas.Result.{err_from_is_err_and}
use Rattle.serde_json.specs.View.{view}
use Rattle.request_codec.specs.Limits.{message_limit}
use Rattle.request_codec.specs.Call.{asks, message_call}
use Rattle.request_codec.specs.Lenient.{lenient_value}
use Rattle.request_codec.specs.inside.Converted.{TestsJson}
use Rattle.request_codec.specs.Written.{message_spelling}
use Rattle.request_codec.specs.Answers.{message_length}
use Rattle.request_codec.specs.declared.json_test.JsonTest.{JsonTest}
use Rattle.request_codec.proofs.PartAnswers.{WritesJson-fault}
use Rattle.request_codec.proofs.JsonDepths.{within_depth}
use Rattle.request_codec.proofs.Spelled.{length-message}
use Rattle.request_codec.proofs.Whole.{message_is_some}
use Rattle.request_codec.proofs.Encoded.{encoded_message, same_found}
use Rattle.request_codec.proofs.json_message.encode_json.Goals as goal

pub returns-in_err-bytes-in-Passed : goal.returns-in_err-bytes-in-Passed
returns-in_err-bytes-in-Passed c =
    let p = err_from_is_err_and c.from_residual.result c.from_residual.ensures.1 in
    let method = c.args.method.now in
    let d = view c.args.argument.now in
    let v = lenient_value d in
    let tested = subst (λ (t : JsonTest). TestsJson t d) c.in-Passed.is c.test_json.ensures in
    rw (p.1, p.2) (WritesJson-fault c.in_err-bytes-in-Passed.field-0.0 method d v (message_spelling (asks method v)) tested.0 (length-message method v) c.in_err-bytes-in-Passed.ensures)

pub from_spelling-requires : goal.from_spelling-requires
from_spelling-requires c =
    let items = c.in_ok-bytes-in-Passed.bytes.items in
    let method = c.args.method.now in
    let d = view c.args.argument.now in
    let v = lenient_value d in
    let tested = subst (λ (t : JsonTest). TestsJson t d) c.in-Passed.is c.test_json.ensures in
    message_is_some items (asks method v) (encoded_message items method v c.utf8.method (within_depth d v tested.0, tested.1) c.in_ok-bytes-in-Passed.ensures)

pub returns-in_ok-from_spelling-in-Passed : goal.returns-in_ok-from_spelling-in-Passed
returns-in_ok-from_spelling-in-Passed c =
    let items = c.in_ok-bytes-in-Passed.bytes.items in
    let method = c.args.method.now in
    let d = view c.args.argument.now in
    let v = lenient_value d in
    let tested = subst (λ (t : JsonTest). TestsJson t d) c.in-Passed.is c.test_json.ensures in
    let short : message_length method v ≤ message_limit = omega (arith, c.in_ok-bytes-in-Passed.ensures.1, length-message method v) in
    let same = same_found (message_call items) c.in_ok-from_spelling-in-Passed.field-0 (asks method v) c.in_ok-from_spelling-in-Passed.ensures (encoded_message items method v c.utf8.method (within_depth d v tested.0, tested.1) c.in_ok-bytes-in-Passed.ensures) in
    (v, tested.0, same, short)
