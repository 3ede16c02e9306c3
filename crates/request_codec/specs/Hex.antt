-- Bytes as digits: two lower case hexadecimal ones for each byte, the high four bits first.
use Rattle.std.specs.Prelude.{ℕ, nat_le, Bool, ◌&&◌, ◌||◌, if◌then◌else◌, List, Option, None}
use Rattle.std.specs.List.{list_all}
use Rattle.std.specs.Result.{result_ok}
use Rattle.hex.specs.Hex.{encode_lower, decode_of}

-- the digits of bytes
abbrev pub digits_of : List ℕ → List ℕ
digits_of = encode_lower

-- whether it is a lower case hexadecimal digit: `0` to `9` are 48 to 57, and `a` to `f` are 97 to 102
abbrev pub is_digit : ℕ → Bool
is_digit c = (nat_le 48 c && nat_le c 57) || (nat_le 97 c && nat_le c 102)

-- the bytes of digits: an odd number of digits, and a text that has anything else in it, are those of no bytes
abbrev pub bytes_of_digits : List ℕ → Option (List ℕ)
bytes_of_digits s = if list_all is_digit s then result_ok (decode_of s) else None
