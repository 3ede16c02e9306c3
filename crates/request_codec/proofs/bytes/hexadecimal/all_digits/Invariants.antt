use Rattle.std.proofs.Common.{◌≡◌, ◌&&◌, drop}
use Rattle.std.specs.List.{list_all}
use Rattle.request_codec.specs.Hex.{is_digit}
use Rattle.request_codec.proofs.bytes.hexadecimal.all_digits.Given as goal

abbrev pub invariant-digits : goal.invariant-digits
invariant-digits l = (l.good && list_all is_digit (drop l.byte-index l.text)) ≡ list_all is_digit l.text
