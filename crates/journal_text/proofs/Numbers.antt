-- A number is read exactly from its decimal text.
use Rattle.std.proofs.Common.{◌≡◌, ◌≤◌, ◌<◌, ◌^◌, ℕ, zero, suc, Bool, true, false, ◌&&◌, cond, ltb, lt-ltb, ltb-true, List, [], ◌∷◌, length, get_or, Option, Some, None, Result, Ok, Err, refl, ap, sym, ◌∙◌, arith}
use Rattle.journal_text.proofs.Common.{decimal, first_so, second_so, and_from, same_text, same_text_decides, wide_of}
use Rattle.std.specs.Result.{OkIff}
use Rattle.std.specs.Str.Parse.{AllDigits, digits_value, ParsesUnsigned}
use Rattle.std.proofs.lemmas.Str.Parse.{IsNumeralModel, numerals_by_value, tells_digits, parse_plain, digit_at}
use Rattle.std.proofs.lemmas.Fmt.{digits_decimal, decimal-digits_value, decimal_is_IsNumeral, first_decimal, parse-decimal, decimal_nonempty, decimal_digit}

digits : IsNumeralModel (AllDigits 10) (digits_value 10)
digits = numerals_by_value (AllDigits 10) tells_digits

ok_no_err : {E : Type 0} (r : Result ℕ E) (x : ℕ) (e : E) → r ≡ Ok x → r ≡ Err e → ⊥
ok_no_err r x e is also = cc

found : (text : List ℕ) (m n : ℕ) → m ≡ n → text ≡ decimal n → n < 18446744073709551616 → cond {A = Option ℕ} (same_text text (decimal m) && ltb m 18446744073709551616) (Some m) None ≡ Some n
found text m n same is small =
    let written = (same_text_decides text (decimal m)).1 (is ∙ ap decimal (sym same)) in
    let below = lt-ltb m 18446744073709551616 (omega (arith, small, same)) in
    ap (λ b. cond {A = Option ℕ} b (Some m) None) (and_from _ _ written below) ∙ ap (λ k. Some k) same

-- the text of a number is read as that number
pub wide_of-decimal : (text : List ℕ) (n : ℕ) → text ≡ decimal n → n < 18446744073709551616 → wide_of text ≡ Some n
unfolding wide_of
wide_of-decimal text n is small = found text (digits_value 10 text) n (ap (digits_value 10) is ∙ (decimal_is_IsNumeral n (omega (arith, small))).1) is small

missing : (text : List ℕ) (m : ℕ) (b : Bool) → same_text text (decimal m) && ltb m 18446744073709551616 ≡ b → ((n : ℕ) → text ≡ decimal n → n < 18446744073709551616 → ⊥) → cond {A = Option ℕ} b (Some m) None ≡ None
missing text m true e none = absurd (none m ((same_text_decides text (decimal m)).0 (first_so (same_text text (decimal m)) (ltb m 18446744073709551616) e)) (ltb-true m 18446744073709551616 (second_so (same_text text (decimal m)) (ltb m 18446744073709551616) e)))
missing text m false e none = refl

-- a text of no number is read as none
pub wide_of-none : (text : List ℕ) → ((n : ℕ) → text ≡ decimal n → n < 18446744073709551616 → ⊥) → wide_of text ≡ None
unfolding wide_of
wide_of-none text none = missing text (digits_value 10 text) _ refl none

-- the text of a number above 0 begins with a digit above 0
pub first_digit : (n : ℕ) → 1 ≤ n → n < 18446744073709551616 → (49 ≤ get_or (decimal n) 0 0) × (get_or (decimal n) 0 0 ≤ 57)
first_digit n above small =
    let within = digit_at (decimal n) 0 (digits_decimal digits n (omega (arith, small))) (decimal_nonempty n (omega (arith, small))) in
    (omega (arith, first_decimal n (omega (arith, above)) (omega (arith, small))), omega (arith, within))

same_decimal : (text : List ℕ) (n : ℕ) → AllDigits 10 text × (0 < length text) × (digits_value 10 text < 2 ^ 64) → digits_value 10 text ≡ n → 49 ≤ get_or text 0 0 → text ≡ decimal n
same_decimal text n numeral value low =
    sym (decimal-digits_value digits text numeral.0 numeral.1 (λ zero. absurd (omega (arith, low, zero))) (omega (arith, numeral.2))) ∙ ap decimal value

-- what is parsed of a text that begins with a digit above 0 has that text
pub parsed_decimal : {E : Type 0} (text : List ℕ) (n : ℕ) (parsed : Result ℕ E) → OkIff parsed (AllDigits 10 text × (0 < length text) × (digits_value 10 text < 2 ^ 64)) (digits_value 10 text) → parsed ≡ Ok n → 49 ≤ get_or text 0 0 → text ≡ decimal n
parsed_decimal text n (Ok x) h is low =
    let value : digits_value 10 text ≡ n = cc in
    same_decimal text n h.0 value low
parsed_decimal text n (Err e) h is low = absurd cc

pub decimal_parsed : {E : Type 0} (text : List ℕ) (n : ℕ) (parsed : Result ℕ E) → 49 ≤ get_or text 0 0 → ParsesUnsigned 64 10 text parsed → parsed ≡ Ok n → text ≡ decimal n
decimal_parsed text n parsed low by is = parsed_decimal text n parsed (parse_plain digits 64 text parsed by (λ plus. absurd (omega (arith, low, plus)))) is low

pub parsed-decimal : {E : Type 0} (text : List ℕ) (n : ℕ) (parsed : Result ℕ E) → ParsesUnsigned 64 10 text parsed → text ≡ decimal n → n < 18446744073709551616 → parsed ≡ Ok n
parsed-decimal text n parsed by is small = parse-decimal 64 n text parsed (omega (arith, small)) (omega (arith, small)) is by

-- a text that isn't `0`, and doesn't begin with a digit above 0, is of no number
pub not_decimal : (text : List ℕ) → (text ≡ 48 ∷ [] → ⊥) → ((49 ≤ get_or text 0 0) × (get_or text 0 0 ≤ 57) → ⊥) → (n : ℕ) → text ≡ decimal n → n < 18446744073709551616 → ⊥
not_decimal text other low zero is small = other (is ∙ decimal_digit 0 (omega arith))
not_decimal text other low (suc n) is small = low (rw is (first_digit (suc n) (omega arith) small))

pub zero_read : (text : List ℕ) → text ≡ 48 ∷ [] → wide_of text ≡ Some 0
zero_read text is = wide_of-decimal text 0 (is ∙ sym (decimal_digit 0 (omega arith))) (omega arith)

-- what isn't parsed is of no number
pub not_parsed : {E : Type 0} (text : List ℕ) (e : E) (parsed : Result ℕ E) → ParsesUnsigned 64 10 text parsed → parsed ≡ Err e → (n : ℕ) → text ≡ decimal n → n < 18446744073709551616 → ⊥
not_parsed text e parsed by is n written small = ok_no_err _ _ _ (parsed-decimal text n parsed by written small) is

-- the text of a number begins with a digit
pub decimal_begins : (n : ℕ) → n < 18446744073709551616 → 48 ≤ get_or (decimal n) 0 0
decimal_begins n small =
    let within = digit_at (decimal n) 0 (digits_decimal digits n (omega (arith, small))) (decimal_nonempty n (omega (arith, small))) in
    omega (arith, within)
