-- The tokens of a text whose first lexeme is known.
use Rattle.std.proofs.Common.{◌≡◌, ◌≢◌, ◌<◌, ℕ, Bool, true, false, cond, ◌||◌, ◌==◌, List, [], ◌∷◌, ◌++◌, length, drop, Option, Some, None, refl, sym, ap, ◌∙◌, subst, ⊎_elim, arith}
use Rattle.std.specs.Char.{is_ascii_digit}
use Rattle.std.proofs.lemmas.Bool.{or_cases, eqb-true, ne_eqb}
use Rattle.std.proofs.lemmas.Bool.Decides.{nat_tests}
use Rattle.json.specs.Token.{Token, begin_object, end_object, begin_array, end_array, key, string, number, boolean, null, bad}
use Rattle.json.specs.Text.{content, plain}
use Rattle.json.specs.Word.{is_operator, is_space, head, ends_word, after_number, number_before, word}
use Rattle.json.specs.Lex.{Lexeme, token, comma, colon, Class, space, other, class, operator_lexeme, string_token, Mode, between, in_word, in_string, lex_byte, lex, Place, fresh, after_comma, begins_colon, place_token, punctuate, tokens}
use Rattle.json.specs.Json.{after_end_array}
use Rattle.line_parser.specs.inside.LineMembers.{begins_object, name_text}
use Rattle.line_parser.specs.declared.line_members.Name.{Name}
use Rattle.line_parser.specs.declared.line_members.Name.TheVariants.{Op, From, Grain, Method, Id, Turn, Now, Failed, Args, State}
use Rattle.line_parser.specs.inside.Plain.{name_spelling, word_spelling, is_opener, PassesValue}
use Rattle.line_parser.specs.inside.Step.{form_text}
use Rattle.line_parser.specs.declared.step.Form.{Form}
use Rattle.line_parser.specs.declared.step.Form.TheVariants as form
use Rattle.line_parser.proofs.PlainLexemes.{digit_class}

-- ---- a token that closes nothing

abbrev pub Opens : Token → Type 0
Opens begin_object = Unit {0}
Opens end_object = ⊥
Opens begin_array = Unit {0}
Opens end_array = ⊥
Opens (key s) = Unit {0}
Opens (string s) = Unit {0}
Opens (number s) = Unit {0}
Opens (boolean b) = Unit {0}
Opens null = Unit {0}
Opens bad = Unit {0}

either : {A : Type 0} (P : A → Type 0) (b : Bool) (x y : A) → P x → P y → P (cond b x y)
either P true x y p q = p
either P false x y p q = q

-- what holds of each token that is no bracket and no text holds of a word's
module _ (P : Token → Type 0) (of_number : (s : List ℕ) → P (number s)) (of_truth : (b : Bool) → P (boolean b)) (of_null : P null) (of_bad : P bad) where
  of_number_before : (t : List ℕ) (o : Option (List ℕ)) → P (number_before t o)
  of_number_before t None = of_bad
  of_number_before t (Some r) = either P (ends_word r) _ bad (of_number _) of_bad

  of_word : (t : List ℕ) → P (word t)
  unfolding word
  of_word t =
      either P (head t == 116) _ _ (either P _ (boolean true) bad (of_truth true) of_bad) (either P (head t == 102) _ _ (either P _ (boolean false) bad (of_truth false) of_bad)
      (either P (head t == 110) _ _ (either P _ null bad of_null of_bad) (of_number_before t (after_number t))))

text_opens : (o : Option (List ℕ)) → Opens (string_token o)
text_opens None = tt
text_opens (Some s) = tt

-- the first lexeme
pub record OpensWith (d : List ℕ) : Type 0 where
  pub first : Token
  pub more : List Lexeme
  pub lexed : lex between d ≡ token first ∷ more
  pub opening : Opens first

opens_at : (x y : ℕ) (xs : List ℕ) → OpensWith (y ∷ xs) → (x == y) ≡ true → OpensWith (x ∷ xs)
opens_at x y xs o e = subst (λ z. OpensWith (z ∷ xs)) (sym (eqb-true x y e)) o

opens_text : (xs : List ℕ) → OpensWith (34 ∷ xs)
unfolding lex
opens_text xs = record { first = string_token (content plain xs); more = _; lexed = refl; opening = text_opens _ }

opens_map : (xs : List ℕ) → OpensWith (123 ∷ xs)
unfolding lex
opens_map xs = record { first = begin_object; more = _; lexed = refl; opening = tt }

opens_list : (xs : List ℕ) → OpensWith (91 ∷ xs)
unfolding lex
opens_list xs = record { first = begin_array; more = _; lexed = refl; opening = tt }

opens_digit : (x : ℕ) (xs : List ℕ) → is_ascii_digit x ≡ true → OpensWith (x ∷ xs)
unfolding lex
opens_digit x xs e = record { first = word (x ∷ xs); more = lex in_word xs; lexed = ap (λ c. lex_byte between c x xs (λ m. lex m xs)) (digit_class x e); opening = of_word Opens (λ t. tt) (λ b. tt) tt tt (x ∷ xs) }

pub opens_with : (x : ℕ) (xs : List ℕ) → is_opener x ≡ true → OpensWith (x ∷ xs)
opens_with x xs e =
    ⊎_elim (λ f. ⊎_elim (λ g. ⊎_elim (opens_at x 34 xs (opens_text xs)) (opens_at x 123 xs (opens_map xs)) (or_cases (x == 34) (x == 123) g))
    (opens_at x 91 xs (opens_list xs)) (or_cases ((x == 34) || (x == 123)) (x == 91) f))
    (opens_digit x xs) (or_cases ((x == 34) || (x == 123) || (x == 91)) (is_ascii_digit x) e)

-- ---- behind a comma it stands as at the beginning, and no list ends at it

text_comma : (s : List ℕ) (b : Bool) (k : Place → List Token) → place_token after_comma (string s) b k ≡ place_token fresh (string s) b k
text_comma s true k = refl
text_comma s false k = refl

opening_comma : (t : Token) (ls : List Lexeme) → Opens t → punctuate after_comma (token t ∷ ls) ≡ punctuate fresh (token t ∷ ls)
unfolding punctuate
opening_comma begin_object ls o = refl
opening_comma end_object ls o = absurd o
opening_comma begin_array ls o = refl
opening_comma end_array ls o = absurd o
opening_comma (key s) ls o = refl
opening_comma (string s) ls o = text_comma s (begins_colon ls) (λ n. punctuate n ls)
opening_comma (number s) ls o = refl
opening_comma (boolean b) ls o = refl
opening_comma null ls o = refl
opening_comma bad ls o = refl

text_goes_on : (s : List ℕ) (b : Bool) (k : Place → List Token) → after_end_array (place_token fresh (string s) b k) ≡ None
text_goes_on s true k = refl
text_goes_on s false k = refl

opening_goes_on : (t : Token) (ls : List Lexeme) → Opens t → after_end_array (punctuate fresh (token t ∷ ls)) ≡ None
unfolding punctuate
opening_goes_on begin_object ls o = refl
opening_goes_on end_object ls o = absurd o
opening_goes_on begin_array ls o = refl
opening_goes_on end_array ls o = absurd o
opening_goes_on (key s) ls o = refl
opening_goes_on (string s) ls o = text_goes_on s (begins_colon ls) (λ n. punctuate n ls)
opening_goes_on (number s) ls o = refl
opening_goes_on (boolean b) ls o = refl
opening_goes_on null ls o = refl
opening_goes_on bad ls o = refl

pub goes_on : (d : List ℕ) → is_opener (head d) ≡ true → after_end_array (tokens d) ≡ None
goes_on [] e = absurd (cc)
goes_on (x ∷ xs) e = let o = opens_with x xs e in ap (λ ls. after_end_array (punctuate fresh ls)) o.lexed ∙ opening_goes_on o.first o.more o.opening

-- ---- a text that begins no map

abbrev NoMap : Token → Type 0
NoMap begin_object = ⊥
NoMap end_object = Unit {0}
NoMap begin_array = Unit {0}
NoMap end_array = Unit {0}
NoMap (key s) = Unit {0}
NoMap (string s) = Unit {0}
NoMap (number s) = Unit {0}
NoMap (boolean b) = Unit {0}
NoMap null = Unit {0}
NoMap bad = Unit {0}

-- the lexeme is no map's, before others
abbrev IsNoMap : List Lexeme → Type 0
IsNoMap ls = begins_object (punctuate fresh ls) ≡ false

text_no_map : (s : List ℕ) (b : Bool) (k : Place → List Token) → begins_object (place_token fresh (string s) b k) ≡ false
text_no_map s true k = refl
text_no_map s false k = refl

token_no_map : (t : Token) (ls : List Lexeme) → NoMap t → IsNoMap (token t ∷ ls)
unfolding punctuate
token_no_map begin_object ls n = absurd n
token_no_map end_object ls n = refl
token_no_map begin_array ls n = refl
token_no_map end_array ls n = refl
token_no_map (key s) ls n = refl
token_no_map (string s) ls n = text_no_map s (begins_colon ls) (λ p. punctuate p ls)
token_no_map (number s) ls n = refl
token_no_map (boolean b) ls n = refl
token_no_map null ls n = refl
token_no_map bad ls n = refl

string_no_map : (o : Option (List ℕ)) → NoMap (string_token o)
string_no_map None = tt
string_no_map (Some s) = tt

operator_no_map : (x : ℕ) (ls : List Lexeme) → (x == 123) ≡ false → IsNoMap (operator_lexeme x ∷ ls)
unfolding punctuate
operator_no_map x ls e =
    let P : Lexeme → Type 0 = λ l. IsNoMap (l ∷ ls) in
    rw e (either P (x == 125) _ _ refl (either P (x == 91) _ _ refl (either P (x == 93) _ _ refl (either P (x == 44) comma colon refl refl))))

no_space : (x : ℕ) → 32 < x → is_space x ≡ false
no_space x h = grind (arith, nat_tests)

byte_no_map : (x : ℕ) (xs : List ℕ) (k : Mode → List Lexeme) → 32 < x → (x == 123) ≡ false → IsNoMap (lex_byte between (class x) x xs k)
unfolding punctuate
byte_no_map x xs k h e =
    let P : Class → Type 0 = λ c. IsNoMap (lex_byte between c x xs k) in
    let word : P other = token_no_map (word (x ∷ xs)) (k in_word) (of_word NoMap (λ t. tt) (λ b. tt) tt tt (x ∷ xs)) in
    either P (x == 34) _ _ (token_no_map (string_token (content plain xs)) (k in_string) (string_no_map (content plain xs)))
    (either P (x == 92) _ _ refl (either P (is_operator x) _ _ (operator_no_map x (k between) e) (subst (λ b. P (cond b space other)) (sym (no_space x h)) word)))

pub no_map : (d : List ℕ) → 32 < head d → head d ≢ 123 → begins_object (tokens d) ≡ false
unfolding lex
no_map [] h n = absurd (omega (arith, h))
no_map (x ∷ xs) h n = byte_no_map x xs (λ m. lex m xs) h (ne_eqb x 123 n)

-- ---- what may follow a value

pub passes_end : (d : List ℕ) → length d ≡ 0 → PassesValue d d
unfolding lex punctuate
passes_end [] e = record { no_colon = refl; same = refl }
passes_end (x ∷ xs) e = absurd (omega arith)

pub passes_brace : (d : List ℕ) → head d ≡ 125 → PassesValue d d
unfolding lex punctuate
passes_brace [] e = absurd (omega arith)
passes_brace (x ∷ xs) e = subst (λ y. PassesValue (y ∷ xs) (y ∷ xs)) (sym e) (record { no_colon = refl; same = refl })

pub passes_bracket : (d : List ℕ) → head d ≡ 93 → PassesValue d d
unfolding lex punctuate
passes_bracket [] e = absurd (omega arith)
passes_bracket (x ∷ xs) e = subst (λ y. PassesValue (y ∷ xs) (y ∷ xs)) (sym e) (record { no_colon = refl; same = refl })

comma_passed : (d : List ℕ) → is_opener (head d) ≡ true → PassesValue (44 ∷ d) d
unfolding lex punctuate
comma_passed [] e = absurd (cc)
comma_passed (x ∷ xs) e =
    let o = opens_with x xs e in
    record { no_colon = refl; same = ap (punctuate after_comma) o.lexed ∙ opening_comma o.first o.more o.opening ∙ sym (ap (punctuate fresh) o.lexed) }

pub passes_comma : (d : List ℕ) → head d ≡ 44 → is_opener (head (drop 1 d)) ≡ true → PassesValue d (drop 1 d)
passes_comma [] e o = absurd (omega arith)
passes_comma (x ∷ xs) e o = subst (λ y. PassesValue (y ∷ xs) xs) (sym e) (comma_passed xs o)

-- ---- tokens

pub map_token : (d : List ℕ) → head d ≡ 123 → tokens d ≡ begin_object ∷ tokens (drop 1 d)
unfolding lex punctuate
map_token [] e = absurd (omega arith)
map_token (x ∷ xs) e = ap (λ y. tokens (y ∷ xs)) e

pub list_token : (d : List ℕ) → head d ≡ 91 → tokens d ≡ begin_array ∷ tokens (drop 1 d)
unfolding lex punctuate
list_token [] e = absurd (omega arith)
list_token (x ∷ xs) e = ap (λ y. tokens (y ∷ xs)) e

pub brace_token : (d after : List ℕ) → head d ≡ 125 → PassesValue (drop 1 d) after → tokens d ≡ end_object ∷ tokens after
unfolding lex punctuate
brace_token [] after e p = absurd (omega arith)
brace_token (x ∷ xs) after e p = ap (λ y. tokens (y ∷ xs)) e ∙ ap (λ ts. end_object ∷ ts) p.same

pub bracket_token : (d after : List ℕ) → head d ≡ 93 → PassesValue (drop 1 d) after → tokens d ≡ end_array ∷ tokens after
unfolding lex punctuate
bracket_token [] after e p = absurd (omega arith)
bracket_token (x ∷ xs) after e p = ap (λ y. tokens (y ∷ xs)) e ∙ ap (λ ts. end_array ∷ ts) p.same

pub key_token : (d s r : List ℕ) → lex between d ≡ token (string s) ∷ lex between r → head r ≡ 58 → tokens d ≡ key s ∷ tokens (drop 1 r)
unfolding lex punctuate
key_token d s [] e h = absurd (omega arith)
key_token d s (x ∷ xs) e h = ap (punctuate fresh) (e ∙ ap (λ y. token (string s) ∷ lex between (y ∷ xs)) h)

-- a member's name
pub name_token : (name : Name) (after : List ℕ) → tokens (name_spelling name ++ after) ≡ key (name_text name) ∷ tokens after
unfolding lex content punctuate
name_token Op after = refl
name_token From after = refl
name_token Grain after = refl
name_token Method after = refl
name_token Id after = refl
name_token Turn after = refl
name_token Now after = refl
name_token Failed after = refl
name_token Args after = refl
name_token State after = refl

pub text_token : (d s r after : List ℕ) → lex between d ≡ token (string s) ∷ lex between r → PassesValue r after → tokens d ≡ string s ∷ tokens after
unfolding punctuate
text_token d s r after e p = ap (punctuate fresh) e ∙ ap (λ b. place_token fresh (string s) b (λ n. punctuate n (lex between r))) p.no_colon ∙ ap (λ ts. string s ∷ ts) p.same

-- a form's word
word_lexed : (form : Form) (after : List ℕ) → lex between (word_spelling form ++ after) ≡ token (string (form_text form)) ∷ lex between (44 ∷ after)
unfolding lex content
word_lexed form.Call after = refl
word_lexed form.Poke after = refl
word_lexed form.Status after = refl
word_lexed form.Deliver after = refl
word_lexed form.Activate after = refl
word_lexed form.Load after = refl
word_lexed form.Begin after = refl
word_lexed form.Store after = refl
word_lexed form.End after = refl
word_lexed form.Abandon after = refl
word_lexed form.Tick after = refl
word_lexed form.Sweep after = refl

pub word_token : (form : Form) (after : List ℕ) → head after ≡ 34 → tokens (word_spelling form ++ after) ≡ string (form_text form) ∷ tokens after
word_token form after quote = text_token (word_spelling form ++ after) (form_text form) (44 ∷ after) after (word_lexed form after) (passes_comma (44 ∷ after) refl (ap is_opener quote))

pub number_token : (d s r after : List ℕ) → lex between d ≡ token (number s) ∷ lex between r → PassesValue r after → tokens d ≡ number s ∷ tokens after
unfolding punctuate
number_token d s r after e p = ap (punctuate fresh) e ∙ ap (λ ts. number s ∷ ts) p.same

pub no_tokens : (d : List ℕ) → length d ≡ 0 → tokens d ≡ []
unfolding lex punctuate
no_tokens [] e = refl
no_tokens (x ∷ xs) e = absurd (omega arith)

pub null_token : (d r after : List ℕ) → lex between d ≡ token null ∷ lex between r → PassesValue r after → tokens d ≡ null ∷ tokens after
unfolding punctuate
null_token d r after e p = ap (punctuate fresh) e ∙ ap (λ ts. null ∷ ts) p.same
