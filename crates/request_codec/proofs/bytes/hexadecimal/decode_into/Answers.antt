use Rattle.std.proofs.Common.{◌+◌, ◌*◌, slice_index, arith, ◌∙◌}
use Rattle.hex.proofs.HexLemmas.{decode_of-even}
use Rattle.hex.proofs.Pairs.{decode_step, decode_done}
use Rattle.request_codec.proofs.Digits.{digit_there, pair_is}
use Rattle.request_codec.proofs.bytes.hexadecimal.decode_into.Goals as goal

pub digit_value-requires : goal.digit_value-requires
digit_value-requires c = digit_there c.args.digits.now (2 * c.bytes.i) c.requires.hex (omega (arith, c.requires.room))

pub digit_value-requires-in-bytes : goal.digit_value-requires-in-bytes
digit_value-requires-in-bytes c = digit_there c.args.digits.now (2 * c.bytes.i + 1) c.requires.hex (omega (arith, c.requires.room))

pub bytes-preserved : goal.bytes-preserved
bytes-preserved c =
    let s = c.args.digits.now in
    let i = c.bytes.i in
    let high = c.digit_value.result in
    let low = c.digit_value-in-bytes.result in
    let pair = pair_is (slice_index s (2 * i)) (slice_index s (2 * i + 1)) (2 * i) high low c.digit_value.ensures.value c.digit_value-in-bytes.ensures.value in
    decode_step s c.bytes.out i (high * 16 + low) (omega (arith, c.requires.room)) (omega arith) pair c.bytes.invariant

pub returns : goal.returns
returns c =
    let s = c.args.digits.now in
    decode_of-even s (omega (arith, c.requires.room)) ∙ decode_done s c.bytes.out c.bytes.i (omega arith) (omega (arith, c.requires.room)) c.bytes.invariant
