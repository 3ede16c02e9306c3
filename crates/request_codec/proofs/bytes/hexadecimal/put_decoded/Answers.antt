use Rattle.std.proofs.Common.{length, take, drop, arith, ◌≡◌, ◌-◌, true, sym, ap, subst}
use Rattle.std.specs.List.{list_all}
use Rattle.std.proofs.lemmas.List.{length-take, length-drop}
use Rattle.request_codec.specs.Hex.{is_digit}
use Rattle.request_codec.proofs.Digits.{digits_known, count_of_digits}
use Rattle.request_codec.proofs.bytes.hexadecimal.put_decoded.Goals as goal

pub decode_into-requires-clause-hex : goal.decode_into-requires-clause-hex
decode_into-requires-clause-hex c =
    let known = digits_known c.args.digits.now c.requires.hex in
    subst (λ s. list_all is_digit s ≡ true) (sym c.as_bytes.ensures.value) known.1.digits

pub decode_into-requires-clause-room : goal.decode_into-requires-clause-room
decode_into-requires-clause-room c =
    let known = digits_known c.args.digits.now c.requires.hex in
    let begin = c.len-begin.result in
    let whole = c.deref_mut.result.now in
    let a = c.deref_mut.ensures.len in
    let b = c.in_ok-resize.ensures.len in
    let room : length (take (length whole - begin) (drop begin whole)) ≡ c.bytes_in-count.result =
    omega (arith, length-take (length whole - begin) (drop begin whole), length-drop begin whole, a, b) in
    omega (arith, room, known.1.twice, count_of_digits c.args.digits.now c.requires.hex, c.bytes_in-count.ensures, ap length c.as_bytes.ensures.value)
