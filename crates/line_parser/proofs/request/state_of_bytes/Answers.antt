use Rattle.std.proofs.Common.{Err, ap, ◌∙◌}
use Rattle.request_codec.specs.Lenient.{lenient_value}
use Rattle.line_parser.proofs.Steps.{not_refused, state_refused, state_spells, state_fits, state_too_large}
use Rattle.line_parser.proofs.request.state_of_bytes.Goals as goal

pub returns-in-Some : goal.returns-in-Some
returns-in-Some c json is = state_refused c.args.refusal c.in-Some.code c.args.bytes.now json is c.in-Some.is

pub returns-then-bytes-gt-MAX_STATE_BYTES : goal.returns-then-bytes-gt-MAX_STATE_BYTES
returns-then-bytes-gt-MAX_STATE_BYTES c json is =
    state_too_large c.args.bytes.now json (not_refused c.args.refusal json c.args.bytes.now is c.in_default.is) c.if-bytes-gt-MAX_STATE_BYTES.true

pub unreachable-requires : goal.unreachable-requires
unreachable-requires c =
    let json = c.requires.0 in
    let is = not_refused c.args.refusal json c.args.bytes.now c.requires.1 c.in_default.is in
    c.read.ensures.none (c.in-Err-NotAMessage.is ∙ ap (λ e. Err e) c.in-Err-NotAMessage.field-0-is) (lenient_value json) (state_spells c.args.bytes.now json is c.if-bytes-gt-MAX_STATE_BYTES.false)

pub returns-in-Ok : goal.returns-in-Ok
returns-in-Ok c json is =
    state_fits c.args.bytes.now c.in-Ok.state json (not_refused c.args.refusal json c.args.bytes.now is c.in_default.is) c.if-bytes-gt-MAX_STATE_BYTES.false c.in-Ok.ensures.reads
