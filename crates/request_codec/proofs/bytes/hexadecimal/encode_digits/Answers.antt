use Rattle.std.proofs.Common.{◌≡◌, arith, length, drop}
use Rattle.std.proofs.lemmas.List.{take_at}
use Rattle.std.proofs.lemmas.Str.{IsUtf8-from_ascii}
use Rattle.hex.specs.Hex.{lower_digits}
use Rattle.hex.proofs.HexLemmas.{IsAscii-encode_with}
use Rattle.request_codec.proofs.Digits.{digits_ascii}
use Rattle.request_codec.proofs.bytes.hexadecimal.encode_digits.Goals as goal

pub from_utf8_unchecked-requires : goal.from_utf8_unchecked-requires
from_utf8_unchecked-requires c =
    let ascii = IsAscii-encode_with lower_digits c.args.bytes.now digits_ascii in
    let len : length c.encode_into.new.out ≡ c.in_ok-digits.digits.len = omega arith in
    let text = IsUtf8-from_ascii _ (rw (← c.encode_into.ensures) at ascii) in
    rw (take_at c.encode_into.new.out (drop (length c.encode_into.new.out) c.in_ok-digits.digits.items) c.in_ok-digits.digits.len len) text
