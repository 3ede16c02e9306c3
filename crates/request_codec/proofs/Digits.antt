-- Bytes as digits.
use Rattle.std.proofs.Common.{◌≡◌, ℕ, suc, ◌%◌, ◌/◌, ◌+◌, ◌*◌, ◌<◌, Bool, true, false, List, [], ◌∷◌, ◌++◌, length, slice_index, Option, Some, None, Result, Ok, Err, is_some, refl, ap, arith}
use Rattle.std.specs.Prelude.{if◌then◌else◌, unwrap_or, IsSome, IsAscii}
use Rattle.std.specs.Int.{w32, to_be_bytes}
use Rattle.std.specs.List.{list_all, AllPass}
use Rattle.std.specs.Result.{result_ok}
use Rattle.std.proofs.lemmas.Bool.Decides.{nat_tests}
use Rattle.std.proofs.lemmas.Bool.{and_parts}
use Rattle.std.proofs.lemmas.List.Elements.{All-cons, All-nil}
use Rattle.std.proofs.lemmas.Str.Ascii.{IsAscii-nil, IsAscii-cons}
use Rattle.std.proofs.lemmas.List.Sums.{AllPass-from_list_all}
use Rattle.hex.specs.Hex.{IsBytes, decode_of, digit_or_error, encode_with, hex_digit_value, lower_digits, is_hex_digit, pair_value, value_at}
use Rattle.hex.specs.declared.error.FromHexError.{FromHexError}
use Rattle.hex.proofs.HexLemmas.{decode_of-ok, decode_of-odd, decode_of-digits, decode_of-encode_lower}
use Rattle.request_codec.specs.Tree.{depth}
use Rattle.request_codec.specs.Formed.{IsFormed}
use Rattle.request_codec.specs.Hex.{digits_of, is_digit, bytes_of_digits}
use Rattle.request_codec.specs.Lenient.{bytes_or_null}
use Rattle.request_codec.specs.Written.{spelling}

-- ---- the value of digits

pub digits_deep : (o : Option (List ℕ)) → depth (bytes_or_null o) ≡ 1
digits_deep (Some b) = refl
digits_deep None = refl

formed_by : (b : Bool) (s : List ℕ) (r : Result (List ℕ) FromHexError) → decode_of s ≡ r → IsFormed (bytes_or_null (if b then result_ok r else None))
formed_by true s (Ok bytes) e = (decode_of-ok s bytes e).3
formed_by true s (Err why) e = tt
formed_by false s r e = tt

pub digits_formed : (s : List ℕ) → IsFormed (bytes_or_null (bytes_of_digits s))
digits_formed s = formed_by (list_all is_digit s) s (decode_of s) refl

-- ---- which texts are digits

hex_digit : (c : ℕ) → is_digit c ≡ true → is_hex_digit c ≡ true
hex_digit c h = grind (arith, nat_tests)

all_hex : (s : List ℕ) → list_all is_digit s ≡ true → AllPass is_hex_digit s
all_hex [] h = All-nil (λ x. is_hex_digit x ≡ true)
all_hex (c ∷ s) h =
    let parts = and_parts (is_digit c) (list_all is_digit s) h in
    All-cons (λ x. is_hex_digit x ≡ true) c s (hex_digit c parts.0) (all_hex s parts.1)

none_by : (b : Bool) (s : List ℕ) → length s % 2 ≡ 1 → is_some (if b then result_ok (decode_of s) else None) ≡ false
none_by true s odd = ap (λ r. is_some (result_ok r)) (decode_of-odd s odd)
none_by false s odd = refl

-- an odd number of digits has no bytes
pub odd_digits : (s : List ℕ) → length s % 2 ≡ 1 → is_some (bytes_of_digits s) ≡ false
odd_digits s odd = none_by (list_all is_digit s) s odd

some_by : (b : Bool) (s : List ℕ) → list_all is_digit s ≡ b → length s % 2 ≡ 0 → is_some (if b then result_ok (decode_of s) else None) ≡ b
some_by true s h even =
    let found = decode_of-digits s even (all_hex s h) in
    ap (λ r. is_some (result_ok r)) found.1
some_by false s h even = refl

-- an even number of them has some
pub even_digits : (s : List ℕ) → length s % 2 ≡ 0 → is_some (bytes_of_digits s) ≡ list_all is_digit s
even_digits s even = some_by (list_all is_digit s) s refl even

-- ---- what digits are decoded as

-- the bytes, and how many of them there are
pub record AreOf (s bytes : List ℕ) : Type 0 where
  pub digits : list_all is_digit s ≡ true
  pub found : bytes_of_digits s ≡ Some bytes
  pub decoded : decode_of s ≡ Ok bytes
  pub twice : length s ≡ 2 * length bytes

of_by : (b : Bool) (s : List ℕ) (r : Result (List ℕ) FromHexError) → list_all is_digit s ≡ b → decode_of s ≡ r → IsSome (if b then result_ok r else None) → (bytes : List ℕ) × AreOf s bytes
of_by true s (Ok bytes) h e some =
    (bytes, record { digits = h; found = rw (h, e) refl; decoded = e; twice = (decode_of-ok s bytes e).2 })
of_by true s (Err why) h e some = absurd (cc (some))
of_by false s r h e some = absurd (cc (some))

pub digits_known : (s : List ℕ) → IsSome (bytes_of_digits s) → (bytes : List ℕ) × AreOf s bytes
digits_known s some = of_by (list_all is_digit s) s (decode_of s) refl refl some

-- their bytes are spelled behind their length
pub digits_spelled : (s : List ℕ) → IsSome (bytes_of_digits s) → spelling (bytes_or_null (bytes_of_digits s)) ≡ (7 ∷ to_be_bytes w32 (length (unwrap_or (bytes_of_digits s) []))) ++ unwrap_or (bytes_of_digits s) []
unfolding spelling
digits_spelled s some = rw (digits_known s some).1.found refl

-- ---- the digits of bytes

-- each digit of a text is one
pub digit_there : (s : List ℕ) (k : ℕ) → list_all is_digit s ≡ true → k < length s → is_digit (slice_index s k) ≡ true
digit_there s k all lt = AllPass-from_list_all is_digit s all k 0 lt

digit_at : (d : ℕ) → d < 16 → is_digit (slice_index lower_digits d) ≡ true
digit_at d lt = digit_there lower_digits d refl lt

all_digits_of : (b : List ℕ) → IsBytes b → list_all is_digit (digits_of b) ≡ true
unfolding encode_with
all_digits_of [] h = refl
all_digits_of (x ∷ b) h =
    let fits : x < 256 = h 0 in
    let high : x / 16 < 16 = omega arith in
    let low : x % 16 < 16 = omega arith in
    rw (digit_at (x / 16) high, digit_at (x % 16) low) (all_digits_of b (λ i. h (suc i)))

-- the digits of bytes are those of these bytes
pub digits_again : (b : List ℕ) → IsBytes b → bytes_of_digits (digits_of b) ≡ Some b
digits_again b h = rw (all_digits_of b h, decode_of-encode_lower b h) refl

-- each is ASCII
digit_low : (c : ℕ) → is_digit c ≡ true → c < 128
digit_low c h = grind (arith, nat_tests)

ascii_by : (s : List ℕ) → list_all is_digit s ≡ true → IsAscii s
ascii_by [] h = IsAscii-nil
ascii_by (c ∷ s) h =
    let parts = and_parts (is_digit c) (list_all is_digit s) h in
    IsAscii-cons c s (digit_low c parts.0) (ascii_by s parts.1)

pub digits_ascii : IsAscii lower_digits
digits_ascii = ascii_by lower_digits refl

-- ---- writing bytes one pair of digits after another

-- two digits side by side are a byte
pub pair_is : (high low i x y : ℕ) → hex_digit_value high ≡ Some x → hex_digit_value low ≡ Some y → pair_value high low i ≡ Ok (x * 16 + y)
pair_is high low i x y h l =
    let first : value_at high i ≡ Ok x = ap (digit_or_error high i) h in
    let second : value_at low (i + 1) ≡ Ok y = ap (digit_or_error low (i + 1)) l in
    rw (first, second) refl

-- ---- how many bytes

pub count_of_digits : (s : List ℕ) → IsSome (bytes_of_digits s) → length s / 2 ≡ length (unwrap_or (bytes_of_digits s) [])
count_of_digits s some =
    let known = digits_known s some in
    let same : length (unwrap_or (bytes_of_digits s) []) ≡ length known.0 = ap (λ (o : Option (List ℕ)). length (unwrap_or o [])) known.1.found in
    omega (arith, known.1.twice, same)
