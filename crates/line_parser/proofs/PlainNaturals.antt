-- The number that digits spell, as serde_json reads it.
use Rattle.std.proofs.Common.{◌≡◌, ℕ, zero, suc, cond, ◌+◌, ◌-◌, ◌*◌, ◌^◌, ◌<◌, ◌≤◌, true, false, ◌&&◌, ◌==◌, nat_lt, List, [], ◌∷◌, ◌++◌, length, length-take, take, drop, get_or, Some, refl, sym, ap, ◌∙◌, append-nil, arith}
use Rattle.std.specs.Char.{digit_value, is_ascii_digit}
use Rattle.std.specs.Str.Parse.{AllDigits, digits_value}
use Rattle.std.specs.Float.Numeral.{Parts, IsWellFormed}
use Rattle.std.proofs.lemmas.Str.{digit_value_digit}
use Rattle.std.proofs.lemmas.Bool.{lt-ltb, ne_eqb, and_from, cond-true, cond-false}
use Rattle.std.proofs.lemmas.Int.Digits.{digits_value-lt, digits_value_more, digits_more}
use Rattle.std.proofs.lemmas.Bool.Decides.{nat_tests}
use Rattle.std.specs.List.{prefix_len}
use Rattle.json.specs.Word.{head}
use Rattle.line_parser.specs.inside.Plain.{is_number_end}
use Rattle.std.proofs.Math.Nat.{pow-le-pow_right}
use Rattle.std.proofs.lemmas.Str.Parse.{digit_from_value}
use Rattle.std.proofs.lemmas.Float.Parse.{scan_numeral-text_of}
use Rattle.fast_float.specs.Text.{scan}
use Rattle.serde_json.specs.Data.{unsigned}
use Rattle.serde_json.specs.Read.{number_of, number_from, float_of}
use Rattle.line_parser.proofs.PlainLexemes.{digit_bounds}

pub digit_is : (x : ℕ) → is_ascii_digit x ≡ true → digit_value x < 10
digit_is x e = let bounds = digit_bounds x e in omega (arith, digit_value_digit x bounds, bounds)

abbrev parts_of : List ℕ → Parts
parts_of s = record { whole = s; point = false; fraction = []; exponent_negative = false; exponent = []; len = length s }

well_formed : (s : List ℕ) → AllDigits 10 s → IsWellFormed (parts_of s)
well_formed s h = record {
  whole_digits = h;
  fraction_digits = tt;
  exponent_digits = tt;
  no_point = λ e. refl;
  no_exponent = λ e. refl;
  len_is = ap length (sym (append-nil s));
}

scanned : (s : List ℕ) → AllDigits 10 s → scan s ≡ parts_of s
scanned s h = ap scan (sym (append-nil s)) ∙ scan_numeral-text_of (parts_of s) (well_formed s h)

no_minus : (s : List ℕ) → AllDigits 10 s → 0 < length s → (get_or s 0 0 == 45) ≡ false
no_minus [] h some = absurd (omega arith)
no_minus (x ∷ xs) h some = ne_eqb x 45 (λ z. omega (arith, digit_from_value x h.0))

spelled : (s : List ℕ) → 0 < length s → digits_value 10 (s ++ []) < 2 ^ 64 → number_from false (parts_of s) ≡ Some (unsigned (digits_value 10 (s ++ [])))
spelled s some fits =
    cond-true (nat_lt 0 (length s) && true && true && nat_lt (digits_value 10 (s ++ [])) (2 ^ 64)) _ (float_of false (parts_of s))
    (and_from _ _ (and_from _ true (and_from _ true (lt-ltb 0 (length s) some) refl) refl) (lt-ltb (digits_value 10 (s ++ [])) (2 ^ 64) fits))

pub number_of-digits : (s : List ℕ) → AllDigits 10 s → 0 < length s → digits_value 10 s < 2 ^ 64 → number_of s ≡ Some (unsigned (digits_value 10 s))
unfolding number_of
number_of-digits s h some fits =
    let value : digits_value 10 (s ++ []) ≡ digits_value 10 s = ap (digits_value 10) (append-nil s) in
    let small : digits_value 10 (s ++ []) < 2 ^ 64 = omega (arith, value) in
    cond-false (get_or s 0 0 == 45) (number_from true (scan (drop 1 s))) (number_from false (scan s)) (no_minus s h some) ∙ ap (number_from false) (scanned s h) ∙ spelled s some small
    ∙ ap (λ n. Some (unsigned n)) value

-- ---- a digit at a time

pub few_digits : (bs : List ℕ) → AllDigits 10 bs → length bs ≤ 18 → digits_value 10 bs < 10 ^ 18
few_digits bs h short = let most : 10 ^ length bs ≤ 10 ^ 18 = pow-le-pow_right (omega arith) short in omega (arith, digits_value-lt 10 bs h, most)

pub record DigitTaken (bs : List ℕ) (i n : ℕ) : Type 0 where
  pub low : 48 ≤ get_or bs i 0
  pub next : n * 10 + (get_or bs i 0 - 48) ≡ digits_value 10 (take (i + 1) bs)
  pub fits : n * 10 + (get_or bs i 0 - 48) < 10 ^ 18
  pub digits : AllDigits 10 (take (i + 1) bs)

pub digit_taken : (bs : List ℕ) (i n : ℕ) → AllDigits 10 (take i bs) → is_ascii_digit (get_or bs i 0) ≡ true → i < 18 → i < length bs → n ≡ digits_value 10 (take i bs) → DigitTaken bs i n
digit_taken bs i n h digit short l is =
    let d = get_or bs i 0 in
    let range = digit_bounds d digit in
    let value : digit_value d ≡ d - 48 = omega (arith, digit_value_digit d range, range) in
    let more = digits_value_more 10 bs i l in
    let next : n * 10 + (d - 48) ≡ digits_value 10 (take (i + 1) bs) = omega (arith, more, value, is) in
    let all = digits_more 10 bs i l h (digit_is d digit) in
    let most = few_digits (take (i + 1) bs) all (omega (arith, length-take (i + 1) bs)) in
    record { low = range.0; next = next; fits = omega (arith, next, most); digits = all }

-- ---- where they end

after_digits : (x : ℕ) → is_number_end x ≡ true → is_ascii_digit x ≡ false
after_digits x e = grind (arith, nat_tests)

in_digits : (x : ℕ) → digit_value x < 10 → is_ascii_digit x ≡ true
in_digits x h = let range = digit_from_value x h in grind (arith, nat_tests)

pub digits_end : (t : List ℕ) (n : ℕ) → AllDigits 10 (take n t) → n ≤ length t → is_number_end (head (drop n t)) ≡ true → n ≡ prefix_len is_ascii_digit t
digits_end [] n h l e = omega (arith, l)
digits_end (x ∷ xs) zero h l e = sym (ap (λ b. cond b (1 + prefix_len is_ascii_digit xs) 0) (after_digits x e))
digits_end (x ∷ xs) (suc n) h l e =
    let rest : suc n ≡ 1 + prefix_len is_ascii_digit xs = omega (arith, digits_end xs n h.1 (omega (arith, l)) e) in
    rest ∙ sym (ap (λ b. cond b (1 + prefix_len is_ascii_digit xs) 0) (in_digits x h.0))
