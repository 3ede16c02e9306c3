-- What the texts of numbers and of words are made of, and so where an argument is cut.
use Rattle.std.proofs.Common.{◌≡◌, ◌≢◌, ◌≤◌, ◌<◌, ◌^◌, ℕ, zero, suc, true, false, true≢false, List, length, take, drop, get_or, map, ◌∷◌, ◌++◌, ◌+◌, Result, Ok, Err, ap, sym, ◌∙◌, arith}
use Rattle.std.specs.Prelude.{IsTrue, decimal}
use Rattle.std.specs.List.{list_all}
use Rattle.std.specs.Cmp.{second_so}
use Rattle.std.specs.Result.{OkIff}
use Rattle.std.specs.Str.Parse.{AllDigits, digits_value, ParsesUnsigned}
use Rattle.std.proofs.lemmas.Str.Parse.{IsNumeralModel, numerals_by_value, tells_digits, not_in_digits, parse_plain, digit_at}
use Rattle.std.proofs.lemmas.Fmt.{digits_decimal, decimal-digits_value, first_decimal, parse-decimal, decimal_nonempty, decimal_digit}
use Rattle.std.proofs.lemmas.List.{drop_more, map-append, take-append-drop}
use Rattle.std.proofs.lemmas.List.Elements.{All-from_get_or}
use Rattle.std.proofs.lemmas.List.Sums.{AllPass-from_list_all}
use Rattle.grain_id.specs.Words.{is_word, is_word_byte}
use Rattle.silo_words.specs.Parts.{IsNumberText, HasNone}

digits : IsNumeralModel (AllDigits 10) (digits_value 10)
digits = numerals_by_value (AllDigits 10) tells_digits

-- no digit is a mark that is none
pub HasNone-decimal : (mark n : ℕ) → 57 < mark → n < 2 ^ 64 → HasNone mark (decimal n)
HasNone-decimal mark n above small = All-from_get_or (λ b. b ≢ mark) (decimal n) 0 (not_in_digits digits (decimal n) mark (digits_decimal digits n small) (λ within. omega (arith, within, above)))

word_byte-other : (b mark : ℕ) → is_word_byte mark ≡ false → is_word_byte b ≡ true → b ≢ mark
word_byte-other b mark outside inside e = absurd (true≢false (sym inside ∙ ap is_word_byte e ∙ outside))

-- a word has no byte that a word may not have
pub HasNone-word : (mark : ℕ) (text : List ℕ) → is_word_byte mark ≡ false → IsTrue (is_word text) → HasNone mark text
unfolding is_word
HasNone-word mark text outside word = λ k d below. word_byte-other _ mark outside (AllPass-from_list_all is_word_byte text (second_so _ (list_all is_word_byte text) word) k d below)

-- the text of a number above 0 begins with a digit above 0
pub first_digit : (n : ℕ) → 1 ≤ n → n < 2 ^ 64 → (49 ≤ get_or (decimal n) 0 0) × (get_or (decimal n) 0 0 ≤ 57) × (0 < length (decimal n))
first_digit n above small =
    let within = digit_at (decimal n) 0 (digits_decimal digits n small) (decimal_nonempty n small) in
    (omega (arith, first_decimal n (omega (arith, above)) small), omega (arith, within), decimal_nonempty n small)

above_zero : (text : List ℕ) (limit : ℕ) → text ≡ decimal limit → 49 ≤ get_or text 0 0 → 1 ≤ limit
above_zero text zero is low = absurd (omega (arith, low, ap (λ t. get_or t 0 0) (is ∙ decimal_digit 0 (omega arith))))
above_zero text (suc n) is low = omega arith

same_decimal : (text : List ℕ) (limit : ℕ) → AllDigits 10 text × (0 < length text) × (digits_value 10 text < 2 ^ 32) → digits_value 10 text ≡ limit → 49 ≤ get_or text 0 0 → text ≡ decimal limit
same_decimal text limit numeral value low =
    sym (decimal-digits_value digits text numeral.0 numeral.1 (λ zero. absurd (omega (arith, low, zero))) (omega (arith, numeral.2))) ∙ ap decimal value

limit_in : {E : Type 0} (text : List ℕ) (limit : ℕ) (parsed : Result ℕ E) → OkIff parsed (AllDigits 10 text × (0 < length text) × (digits_value 10 text < 2 ^ 32)) (digits_value 10 text) → parsed ≡ Ok limit → 49 ≤ get_or text 0 0 → text ≡ decimal limit
limit_in text limit (Ok x) h is low =
    let value : digits_value 10 text ≡ limit = cc in
    same_decimal text limit h.0 value low
limit_in text limit (Err e) h is low = absurd cc

pub IsNumberText-parsed : {E : Type 0} (text : List ℕ) (most limit : ℕ) (parsed : Result ℕ E) → 49 ≤ get_or text 0 0 → ParsesUnsigned 32 10 text parsed → parsed ≡ Ok limit → limit ≤ most → IsNumberText most text limit
IsNumberText-parsed text most limit parsed low parses is below =
    let written = limit_in text limit parsed (parse_plain digits 32 text parsed parses (λ plus. absurd (omega (arith, low, plus)))) is low in
    ((above_zero text limit written low, below), written)

pub parsed-IsNumberText : {E : Type 0} (text : List ℕ) (most limit : ℕ) (parsed : Result ℕ E) → most < 2 ^ 32 → ParsesUnsigned 32 10 text parsed → IsNumberText most text limit → parsed ≡ Ok limit
parsed-IsNumberText text most limit parsed small parses is =
    parse-decimal 32 limit text parsed (omega (arith, small, is.0)) (omega (arith, small, is.0)) is.1 parses

-- the text of a number begins with a digit above 0
pub first_of_number : (text : List ℕ) (most limit : ℕ) → most < 2 ^ 32 → IsNumberText most text limit → (49 ≤ get_or text 0 0) × (get_or text 0 0 ≤ 57)
first_of_number text most limit small is =
    let first = first_digit limit is.0.0 (omega (arith, small, is.0)) in
    let same = ap (λ t. get_or t 0 0) is.1 in
    (omega (arith, first, same), omega (arith, first, same))

-- the texts of a list, around one of its places
pub texts_at : {A : Type 0} (f : A → List ℕ) (xs : List A) (i : ℕ) (d : A) → i < length xs
    → map f xs ≡ map f (take i xs) ++ f (get_or xs i d) ∷ map f (drop (i + 1) xs)
texts_at f xs i d inside =
    ap (map f) (sym (take-append-drop i xs) ∙ ap (λ rest. take i xs ++ rest) (drop_more xs i d inside))
    ∙ map-append f (take i xs) (get_or xs i d ∷ drop (i + 1) xs)
