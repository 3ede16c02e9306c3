use Rattle.std.proofs.Common.{◌≡◌, ◌∙◌, [], string_bytes, length, sym, ap, arith}
use Rattle.request_codec.specs.Limits.{depth_limit}
use Rattle.request_codec.specs.Reading.{value_at}
use Rattle.request_codec.specs.declared.fault.CodecFault.TheVariants as faults
use Rattle.line_text.proofs.ValueTexts.{state_added, state_behind, no_fault}
use Rattle.line_text.proofs.value_text.push_state.Goals as goal

pub unreachable-requires : goal.unreachable-requires
unreachable-requires c =
    let all = state_added c.bytes.result.now c.in-Ok.rest.now (string_bytes c.args.text.now) (string_bytes c.push_value.new.text) c.args.state.now c.bytes.ensures.reads c.in-Ok.ensures.ok in
    omega (arith, ap length all.0, c.in-len1-up.len_at_least)

pub returns-in-empty : goal.returns-in-empty
returns-in-empty c = (state_added c.bytes.result.now c.in-Ok.rest.now (string_bytes c.args.text.now) (string_bytes c.push_value.new.text) c.args.state.now c.bytes.ensures.reads c.in-Ok.ensures.ok).1

pub unreachable-requires-in-Err-NotAMessage : goal.unreachable-requires-in-Err-NotAMessage
unreachable-requires-in-Err-NotAMessage c =
    let bytes = c.bytes.result.now in
    let memory = no_fault c.in-Err-NotAMessage.field-0 (value_at depth_limit bytes) (c.args.state.now, []) (state_behind bytes c.args.state.now c.bytes.ensures.reads) c.in-Err-NotAMessage.ensures.err in
    let both : faults.NotAMessage ≡ faults.Memory = sym c.in-Err-NotAMessage.field-0-is ∙ memory in
    cc
