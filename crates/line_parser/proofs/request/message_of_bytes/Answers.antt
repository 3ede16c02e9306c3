use Rattle.std.proofs.Common.{◌+◌, ◌≤◌, length, ap, ◌∙◌, sym, Ok, arith}
use Rattle.request_codec.specs.Limits.{message_limit}
use Rattle.request_codec.specs.Call.{asks}
use Rattle.request_codec.specs.Lenient.{lenient_value}
use Rattle.request_codec.proofs.Encoded.{same_found}
use Rattle.request_codec.proofs.Whole.{message_is_some}
use Rattle.line_parser.proofs.Steps.{not_refused, message_refused, message_of, message_fits, message_too_long}
use Rattle.line_parser.proofs.request.message_of_bytes.Goals as goal

pub returns-in-Some : goal.returns-in-Some
returns-in-Some c json is = message_refused c.args.refusal c.in-Some.code c.args.method.now c.args.argument.now json is c.in-Some.is

pub returns-then-method-argument : goal.returns-then-method-argument
returns-then-method-argument c json is = message_too_long c.args.method.now c.args.argument.now json (not_refused c.args.refusal json c.args.argument.now is c.in_default.is) (omega arith)

pub message_at-requires : goal.message_at-requires
message_at-requires c =
    let json = c.requires.0 in
    let is = not_refused c.args.refusal json c.args.argument.now c.requires.1 c.in_default.is in
    message_is_some _ (asks c.args.method.now (lenient_value json)) (message_of _ c.args.method.now c.args.argument.now json c.utf8.method is (c.as_slice.ensures.value ∙ c.in_ok-write_message.ensures) (omega arith))

pub returns : goal.returns
returns c json asked =
    let is = not_refused c.args.refusal json c.args.argument.now asked c.in_default.is in
    let method = c.args.method.now in
    let short : 5 + length method + length c.args.argument.now ≤ message_limit = omega arith in
    let spelled = message_of _ method c.args.argument.now json c.utf8.method is (c.as_slice.ensures.value ∙ c.in_ok-write_message.ensures) short in
    message_fits method c.args.argument.now json is short ∙ ap (λ x. Ok x) (sym (same_found _ c.in_ok-message.message (asks method (lenient_value json)) c.in_ok-message.ensures spelled))
