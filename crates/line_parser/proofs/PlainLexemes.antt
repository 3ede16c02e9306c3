-- The lexeme of a text or a number that is spelled plainly, and what is left after it.
use Rattle.std.proofs.Common.{◌≡◌, ℕ, suc, ◌+◌, ◌-◌, ◌<◌, ◌≤◌, Bool, true, false, cond, ◌||◌, ◌==◌, nat_lt, List, [], ◌∷◌, length, take, drop, Some, None, option_and_then, refl, sym, ap, ◌∙◌, subst, ⊎_elim, arith}
use Rattle.std.specs.List.{prefix_len}
use Rattle.std.specs.Char.{is_ascii_digit}
use Rattle.std.proofs.lemmas.Bool.{true≢false, not-true, or_parts, or_cases, and_parts, leb-true, ne_eqb, eqb-true, cond-true, cond-false, or_left}
use Rattle.std.proofs.lemmas.Bool.Decides.{nat_tests}
use Rattle.std.proofs.lemmas.List.{length-drop}
use Rattle.std.proofs.lemmas.List.Sums.{prefix_len-le-length}
use Rattle.json.specs.Token.{string, number, null, bad}
use Rattle.json.specs.Text.{content, plain, after_backslash, prepend}
use Rattle.json.specs.Word.{is_operator, is_space, head, ends_word, after_digits, after_minus, after_whole, after_fraction, after_exponent, after_number, number_before, word}
use Rattle.json.specs.Lex.{Lexeme, token, quote, backslash, operator, space, other, class, string_token, Mode, between, in_word, in_string, lex_byte, lex}
use Rattle.json.specs.Run.{is_plain}
use Rattle.line_parser.specs.inside.Plain.{is_number_end}

-- ---- a text with no escape

plain_class : (q b o s : Bool) (x : ℕ) (xs : List ℕ) (k : Mode → List Lexeme) → q ≡ false → b ≡ false → lex_byte in_string (cond q quote (cond b backslash (cond o operator (cond s space other)))) x xs k ≡ k in_string
plain_class true b o s x xs k e f = absurd (true≢false e)
plain_class false true o s x xs k e f = absurd (true≢false f)
plain_class false false true s x xs k e f = refl
plain_class false false false true x xs k e f = refl
plain_class false false false false x xs k e f = refl

-- a quote closes the text behind n bytes, which stand for themselves
pub record ClosesText (t : List ℕ) (n : ℕ) : Type 0 where
  pub text : content plain t ≡ Some (take n t)
  pub left : lex in_string t ≡ lex between (drop (suc n) t)

at_quote : (x : ℕ) (xs : List ℕ) → x ≡ 34 → ClosesText (x ∷ xs) 0
unfolding content lex
at_quote x xs e = record { text = ap (λ y. content plain (y ∷ xs)) e; left = ap (λ y. lex in_string (y ∷ xs)) e }

at_plain : (x n : ℕ) (xs : List ℕ) → is_plain x ≡ true → ClosesText xs n → ClosesText (x ∷ xs) (suc n)
unfolding content lex
at_plain x n xs e c =
    let none = or_parts ((x == 34) || (x == 92)) (nat_lt x 32) (not-true _ e) in
    let tests = or_parts (x == 34) (x == 92) none.0 in
    record {
      text = λ i. cond (tests.0 i) (Some []) (cond (tests.1 i) (content after_backslash xs) (cond (none.1 i) None (prepend (x ∷ []) (c.text i))));
      left = plain_class (x == 34) (x == 92) (is_operator x) (is_space x) x xs (λ m. lex m xs) tests.0 tests.1 ∙ c.left;
    }

text_byte : (p : Bool) (x n : ℕ) (xs : List ℕ) → is_plain x ≡ p → (head (drop n xs) ≡ 34 → ClosesText xs n) → head (drop (cond p (1 + n) 0) (x ∷ xs)) ≡ 34 → ClosesText (x ∷ xs) (cond p (1 + n) 0)
text_byte false x n xs e ih h = at_quote x xs h
text_byte true x n xs e ih h =
    let next : suc n ≡ 1 + n = omega arith in
    subst (ClosesText (x ∷ xs)) next (at_plain x n xs e (ih (ap (λ k. head (drop k (x ∷ xs))) next ∙ h)))

closes_text : (t : List ℕ) → head (drop (prefix_len is_plain t) t) ≡ 34 → ClosesText t (prefix_len is_plain t)
closes_text [] h = absurd (omega arith)
closes_text (x ∷ xs) h = text_byte (is_plain x) x (prefix_len is_plain xs) xs refl (closes_text xs) h

opened : (xs : List ℕ) (n : ℕ) → ClosesText xs n → lex between (34 ∷ xs) ≡ token (string (take n xs)) ∷ lex between (drop (suc n) xs)
unfolding lex
opened xs n c = λ i. token (string_token (c.text i)) ∷ c.left i

pub text_lexed : (d : List ℕ) (n : ℕ) → head d ≡ 34 → n ≡ prefix_len is_plain (drop 1 d) → head (drop n (drop 1 d)) ≡ 34 → lex between d ≡ token (string (take n (drop 1 d))) ∷ lex between (drop (n + 1) (drop 1 d))
text_lexed [] n e is h = absurd (omega arith)
text_lexed (x ∷ xs) n e is h =
    let next : suc n ≡ n + 1 = omega arith in
    ap (λ y. lex between (y ∷ xs)) e ∙ opened xs n (subst (ClosesText xs) (sym is) (closes_text xs (ap (λ k. head (drop k xs)) (sym is) ∙ h)))
    ∙ ap (λ k. token (string (take n xs)) ∷ lex between (drop k xs)) next

-- ---- digits

pub digit_bounds : (x : ℕ) → is_ascii_digit x ≡ true → (48 ≤ x) × (x ≤ 57)
digit_bounds x e = let both = and_parts _ _ e in (leb-true 48 x both.0, leb-true x 57 both.1)

no_operator : (x : ℕ) → 48 ≤ x → x ≤ 57 → is_operator x ≡ false
no_operator x low high = grind (arith, nat_tests)

no_space : (x : ℕ) → 48 ≤ x → x ≤ 57 → is_space x ≡ false
no_space x low high = grind (arith, nat_tests)

pub digit_class : (x : ℕ) → is_ascii_digit x ≡ true → class x ≡ other
digit_class x e =
    let bounds = digit_bounds x e in
    λ i. cond (ne_eqb x 34 (λ z. omega (arith, bounds)) i) quote (cond (ne_eqb x 92 (λ z. omega (arith, bounds)) i) backslash (cond (no_operator x bounds.0 bounds.1 i) operator (cond (no_space x bounds.0 bounds.1 i) space other)))

digits_byte : (p : Bool) (x n : ℕ) (xs : List ℕ) → is_ascii_digit x ≡ p → (class (head (drop n xs)) ≡ operator → lex in_word xs ≡ lex between (drop n xs)) → class (head (drop (cond p (1 + n) 0) (x ∷ xs))) ≡ operator
    → lex in_word (x ∷ xs) ≡ lex between (drop (cond p (1 + n) 0) (x ∷ xs))
unfolding lex
digits_byte false x n xs e ih h = ap (λ c. lex_byte in_word c x xs (λ m. lex m xs)) h ∙ sym (ap (λ c. lex_byte between c x xs (λ m. lex m xs)) h)
digits_byte true x n xs e ih h =
    let next : suc n ≡ 1 + n = omega arith in
    ap (λ c. lex_byte in_word c x xs (λ m. lex m xs)) (digit_class x e) ∙ ih (ap (λ k. class (head (drop k (x ∷ xs)))) next ∙ h) ∙ ap (λ k. lex between (drop k (x ∷ xs))) next

digits_passed : (t : List ℕ) → class (head (drop (prefix_len is_ascii_digit t) t)) ≡ operator → lex in_word t ≡ lex between (drop (prefix_len is_ascii_digit t) t)
digits_passed [] h = absurd (cc)
digits_passed (x ∷ xs) h = digits_byte (is_ascii_digit x) x (prefix_len is_ascii_digit xs) xs refl (digits_passed xs) h

-- what ends a number here
record EndsNumber (b : ℕ) : Type 0 where
  kind : class b ≡ operator
  word_end : is_operator b ≡ true
  no_dot : (b == 46) ≡ false
  no_exponent : ((b == 101) || (b == 69)) ≡ false

ends_number : (b : ℕ) → is_number_end b ≡ true → EndsNumber b
ends_number b e =
    let at : (c : ℕ) → EndsNumber c → (b == c) ≡ true → EndsNumber b = λ c ends is. subst EndsNumber (sym (eqb-true b c is)) ends in
    ⊎_elim (λ first. ⊎_elim (at 44 (record { kind = refl; word_end = refl; no_dot = refl; no_exponent = refl })) (at 125 (record { kind = refl; word_end = refl; no_dot = refl; no_exponent = refl })) (or_cases (b == 44) (b == 125) first))
    (at 93 (record { kind = refl; word_end = refl; no_dot = refl; no_exponent = refl })) (or_cases ((b == 44) || (b == 125)) (b == 93) e)

first_byte : (p : Bool) (x n : ℕ) → is_ascii_digit x ≡ p → 0 < cond p (1 + n) 0 → is_ascii_digit x ≡ true
first_byte false x n e h = absurd (omega arith)
first_byte true x n e h = e

first_digit : (t : List ℕ) → 0 < prefix_len is_ascii_digit t → is_ascii_digit (head t) ≡ true
first_digit [] h = absurd (omega arith)
first_digit (x ∷ xs) h = first_byte (is_ascii_digit x) x (prefix_len is_ascii_digit xs) refl h

whole_part : (t : List ℕ) (n : ℕ) (zero_first : Bool) → n ≡ prefix_len is_ascii_digit t → 0 < n → (head t == 48) ≡ zero_first → (head t ≡ 48 → n ≡ 1) → cond zero_first (Some (drop 1 t)) (after_digits t) ≡ Some (drop n t)
whole_part t n true is some first short = ap (λ k. Some (drop k t)) (sym (short (eqb-true (head t) 48 first)))
whole_part t n false is some first short =
    ap (λ k. cond (k == 0) None (Some (drop k t))) (sym is) ∙ ap (λ b. cond b None (Some (drop n t))) (ne_eqb n 0 (λ z. omega arith))

number_word : (t : List ℕ) (n : ℕ) → n ≡ prefix_len is_ascii_digit t → 0 < n → (head t ≡ 48 → n ≡ 1) → EndsNumber (head (drop n t)) → word t ≡ number (take n t)
unfolding word after_number
number_word t n is some short ends =
    let digit = digit_bounds (head t) (first_digit t (omega (arith, is, some))) in
    let r = drop n t in
    let unsigned : after_minus t ≡ t = ap (λ b. cond b (drop 1 t) t) (ne_eqb (head t) 45 (λ z. omega (arith, digit))) in
    let whole : after_whole t ≡ Some r = whole_part t n (head t == 48) is some refl short in
    let fraction : after_fraction r ≡ Some r = ap (λ b. cond b (after_digits (drop 1 r)) (Some r)) ends.no_dot in
    let exponent : after_exponent r ≡ Some r = cond-false _ _ (Some r) ends.no_exponent in
    let all : after_number t ≡ Some r = ap (λ u. option_and_then after_exponent (option_and_then after_fraction (after_whole u))) unsigned ∙ ap (λ o. option_and_then after_exponent (option_and_then after_fraction o)) whole ∙ ap (option_and_then after_exponent) fraction ∙ exponent in
    let within : n ≤ length t = omega (arith, is, prefix_len-le-length is_ascii_digit t) in
    let len : length t - length r ≡ n = omega (arith, length-drop n t, within) in
    cond-false (head t == 116) _ _ (ne_eqb (head t) 116 (λ z. omega (arith, digit))) ∙ cond-false (head t == 102) _ _ (ne_eqb (head t) 102 (λ z. omega (arith, digit))) ∙ cond-false (head t == 110) _ _ (ne_eqb (head t) 110 (λ z. omega (arith, digit)))
    ∙ ap (number_before t) all ∙ cond-true (ends_word r) _ bad (or_left (is_operator (head r)) (is_space (head r)) ends.word_end) ∙ ap (λ k. number (take k t)) len

word_first : (t : List ℕ) → class (head t) ≡ other → lex between t ≡ token (word t) ∷ lex in_word (drop 1 t)
unfolding lex
word_first [] e = absurd (cc)
word_first (x ∷ xs) e = ap (λ c. lex_byte between c x xs (λ m. lex m xs)) e

past_first : (t : List ℕ) (n : ℕ) → n ≡ prefix_len is_ascii_digit t → 0 < n → class (head (drop n t)) ≡ operator → lex in_word (drop 1 t) ≡ lex between (drop n t)
unfolding lex
past_first [] n is some e = absurd (omega arith)
past_first (x ∷ xs) n is some e =
    let digit : is_ascii_digit x ≡ true = first_digit (x ∷ xs) (omega (arith, is, some)) in
    ap (λ c. lex_byte in_word c x xs (λ m. lex m xs)) (sym (digit_class x digit)) ∙ digits_passed (x ∷ xs) (ap (λ k. class (head (drop k (x ∷ xs)))) (sym is) ∙ e) ∙ ap (λ k. lex between (drop k (x ∷ xs))) (sym is)

pub number_lexed : (t : List ℕ) (n : ℕ) → n ≡ prefix_len is_ascii_digit t → 0 < n → (head t ≡ 48 → n ≡ 1) → is_number_end (head (drop n t)) ≡ true → lex between t ≡ token (number (take n t)) ∷ lex between (drop n t)
number_lexed t n is some short e =
    let ends = ends_number (head (drop n t)) e in
    word_first t (digit_class (head t) (first_digit t (omega (arith, is, some)))) ∙ ap (λ w. token w ∷ lex in_word (drop 1 t)) (number_word t n is some short ends)
    ∙ ap (λ ls. token (number (take n t)) ∷ ls) (past_first t n is some ends.kind)

-- ---- null

word_null : (r : List ℕ) → EndsNumber (head r) → word (110 ∷ 117 ∷ 108 ∷ 108 ∷ r) ≡ null
unfolding word
word_null r ends = ap (λ b. cond b null bad) (or_left (is_operator (head r)) (is_space (head r)) ends.word_end)

left_of_word : (r : List ℕ) → class (head r) ≡ operator → lex in_word r ≡ lex between r
unfolding lex
left_of_word [] e = absurd (cc)
left_of_word (x ∷ xs) e = ap (λ c. lex_byte in_word c x xs (λ m. lex m xs)) e ∙ sym (ap (λ c. lex_byte between c x xs (λ m. lex m xs)) e)

null_front : (r : List ℕ) → lex between (110 ∷ 117 ∷ 108 ∷ 108 ∷ r) ≡ token (word (110 ∷ 117 ∷ 108 ∷ 108 ∷ r)) ∷ lex in_word r
unfolding lex
null_front r = refl

pub null_lexed : (r : List ℕ) → is_number_end (head r) ≡ true → lex between (110 ∷ 117 ∷ 108 ∷ 108 ∷ r) ≡ token null ∷ lex between r
null_lexed r e =
    let ends = ends_number (head r) e in
    null_front r ∙ ap (λ t. token t ∷ lex in_word r) (word_null r ends) ∙ ap (λ ls. token null ∷ ls) (left_of_word r ends.kind)
