-- The texts of fields hold no space, and are read back.
use Rattle.std.proofs.Common.{◌≡◌, ℕ, ◌+◌, ◌%◌, ◌<◌, ◌≤◌, ◌^◌, Bool, true, false, cond, ◌&&◌, leb, ltb, lt-ltb, List, [], ◌∷◌, ◌++◌, length, Option, Some, None, refl, ap, ◌∙◌, arith}
use Rattle.journal_text.proofs.Common.{IsTrue, IfSome, decimal, codes, list_all, first_so, second_so, le-leb, leb-true, and_from, list_all-from_AllPass, Call, Tree, IsAge, Form, HasMessage, HasState, message_in, state_in, state_bytes, is_text_byte}
use Rattle.std.specs.Fmt.{digits}
use Rattle.std.proofs.lemmas.Fmt.{decimal_by_steps}
use Rattle.hex.specs.Hex.{encode_lower, IsBytes, is_hex_digit, lower_digits}
use Rattle.hex.proofs.HexLemmas.{decode_of-encode_lower, decode_of-ok, length-encode_with}
use Rattle.grain_id.specs.Words.{is_word, is_name, is_word_byte, is_name_byte}
use Rattle.grain_id.specs.Names.{Grain, Client, is_client, is_grain, client_text, grain_text, same_text}
use Rattle.grain_id.proofs.Reading.{grain_read-grain_text, caller_read-client_text}
use Rattle.silo_event.specs.declared.refusal.Refusal.{Refusal}
use Rattle.silo_event.specs.declared.refusal.Refusal.TheVariants as refusals
use Rattle.journal_text.specs.Rules.{is_refusal}
use Rattle.journal_text.specs.inside.Candidates.{◌>>=◌, ◌⊗◌, only_if, if_ok, wide_of, number_of, mark_of, refusal_of, client_of, grain_of, message_of, state_of, age_of, version_of, word_of, content_of}
use Rattle.journal_text.specs.Text.{◌␣◌, mark_text, refusal_text, message_text, state_text, content_text}
use Rattle.journal_text.proofs.Words.{differ}
use Rattle.journal_text.proofs.Numbers.{wide_of-decimal}
use Rattle.journal_text.proofs.Cuts.{IsField, pass_append, pass_weaker, cut-field}

-- ---- what reading back is

-- The field is of visible ASCII, and is read as x.
pub record FieldBack {A : Type 0} (read : List ℕ → Option A) (field : List ℕ) (x : A) : Type 0 where
  pub whole : IsField field
  pub is : read field ≡ Some x

-- The text is of visible ASCII and spaces, and is read as x.
pub record Back {A : Type 0} (read : List ℕ → Option A) (text : List ℕ) (x : A) : Type 0 where
  pub plain : list_all is_text_byte text ≡ true
  pub is : read text ≡ Some x

text_byte : (b : ℕ) → is_name_byte b ≡ true → is_text_byte b ≡ true
text_byte b is =
    let low = leb-true 33 b (first_so (leb 33 b) (leb b 126) is) in
    and_from (leb 32 b) (leb b 126) (le-leb 32 b (omega (arith, low))) (second_so (leb 33 b) (leb b 126) is)

pub plain_field : (xs : List ℕ) → IsField xs → list_all is_text_byte xs ≡ true
plain_field xs all = pass_weaker is_name_byte is_text_byte text_byte xs all

-- a field, a space and what follows
pub plain_more : (field fields : List ℕ) → IsField field → list_all is_text_byte fields ≡ true → list_all is_text_byte (field ␣ fields) ≡ true
plain_more field fields whole plain = pass_append is_text_byte field (32 ∷ fields) (plain_field field whole) plain

pub last : {A : Type 0} {read : List ℕ → Option A} {field : List ℕ} {x : A} → FieldBack read field x → Back read field x
last {field = field} f = record { plain = plain_field field f.whole; is = f.is }

-- a field, and the fields after it
pub more : {A B : Type 0} {first : List ℕ → Option A} {others : List ℕ → Option B} {field fields : List ℕ} {x : A} {y : B} → FieldBack first field x → Back others fields y → Back (first ⊗ others) (field ␣ fields) (x, y)
more {field = field} {fields = fields} f g = record { plain = plain_more field fields f.whole g.plain; is = rw (cut-field field fields f.whole, f.is, g.is) refl }

pub two : {A B : Type 0} {first : List ℕ → Option A} {second : List ℕ → Option B} {s t : List ℕ} {x : A} {y : B} → FieldBack first s x → FieldBack second t y → Back (first ⊗ second) (s ␣ t) (x, y)
two f g = more f (last g)

-- what is made of fields
pub made : {A B : Type 0} {read : List ℕ → Option A} {text : List ℕ} {x : A} → Back read text x → (make : A → B) → Back (λ t. read t >>= λ y. Some (make y)) text (make x)
made b make = record { plain = b.plain; is = ap (λ found. found >>= λ y. Some (make y)) b.is }

-- ---- numbers

visible : (b : ℕ) → 33 ≤ b → b ≤ 126 → is_name_byte b ≡ true
visible b low high = and_from (leb 33 b) (leb b 126) (le-leb 33 b low) (le-leb b 126 high)

one_digit : (n : ℕ) → n < 10 → IsField ((48 + n) ∷ [])
one_digit n small = and_from (is_name_byte (48 + n)) true (visible (48 + n) (omega arith) (omega (arith, small))) refl

last_digit : (n : ℕ) → n % 10 < 10
last_digit n = omega arith

pub IsField-decimal : (n : ℕ) → n < 2 ^ 64 → IsField (decimal n)
IsField-decimal n small =
    decimal_by_steps (λ k ds. IsField ds) one_digit (λ k ds above front. pass_append is_name_byte ds ((48 + k % 10) ∷ []) front (one_digit (k % 10) (last_digit k))) n small

pub wide : (n : ℕ) → n < 2 ^ 64 → FieldBack wide_of (decimal n) n
wide n small = record { whole = IsField-decimal n small; is = wide_of-decimal (decimal n) n refl (omega (arith, small)) }

pub number : (n : ℕ) → n < 2 ^ 63 → FieldBack number_of (decimal n) n
number n small =
    let w = wide n (omega (arith, small)) in
    record {
      whole = w.whole;
      is = ap (λ found. found >>= (λ k. cond {A = Option ℕ} (ltb k 9223372036854775808) (Some k) None)) w.is ∙ ap (λ b. cond {A = Option ℕ} b (Some n) None) (lt-ltb n 9223372036854775808 (omega (arith, small)));
    }

pub age : (n : ℕ) → IsAge n → FieldBack age_of (decimal n) n
age n is =
    let w = wide n (omega (arith, is)) in
    record { whole = w.whole; is = rw (w.is, and_from (leb 1 n) (leb n 86400000) (le-leb 1 n is.0) (le-leb n 86400000 is.1)) refl }

pub version : (n : ℕ) → 1 ≤ n → n < 2 ^ 64 → FieldBack version_of (decimal n) n
version n above small =
    let w = wide n small in
    record { whole = w.whole; is = rw (w.is, le-leb 1 n above) refl }

-- ---- names

word_byte : (b : ℕ) → is_word_byte b ≡ true → is_name_byte b ≡ true
word_byte b is = grind (arith, is)

IsField-word : (word : List ℕ) → is_word word ≡ true → IsField word
unfolding is_word
IsField-word word is = pass_weaker is_word_byte is_name_byte word_byte word (second_so _ (list_all is_word_byte word) is)

IsField-name : (name : List ℕ) → is_name name ≡ true → IsField name
unfolding is_name
IsField-name name is = second_so _ (list_all is_name_byte name) is

IsField-client : (c : Client) → IsTrue (is_client c) → IsField (client_text c)
IsField-client c is =
    pass_append is_name_byte c.tenant (47 ∷ c.client) (IsField-word c.tenant (first_so (is_word c.tenant) (is_word c.client) is)) (IsField-word c.client (second_so (is_word c.tenant) (is_word c.client) is))

IsField-grain : (g : Grain) → IsTrue (is_grain g) → IsField (grain_text g)
IsField-grain g is =
    let words = first_so (is_word g.kind && is_word g.tenant) (is_name g.name) is in
    pass_append is_name_byte g.kind (47 ∷ (g.tenant ++ 58 ∷ g.name)) (IsField-word g.kind (first_so (is_word g.kind) (is_word g.tenant) words))
    (pass_append is_name_byte g.tenant (58 ∷ g.name) (IsField-word g.tenant (second_so (is_word g.kind) (is_word g.tenant) words)) (IsField-name g.name (second_so (is_word g.kind && is_word g.tenant) (is_name g.name) is)))

pub word : (t : List ℕ) → IsTrue (is_word t) → FieldBack word_of t t
word t is = record { whole = IsField-word t is; is = rw is refl }

pub client : (c : Client) → IsTrue (is_client c) → FieldBack client_of (client_text c) c
client c is = record { whole = IsField-client c is; is = ap if_ok (caller_read-client_text c is) }

pub grain : (g : Grain) → IsTrue (is_grain g) → FieldBack grain_of (grain_text g) g
grain g is = record { whole = IsField-grain g is; is = ap if_ok (grain_read-grain_text g is) }

-- ---- marks and bytes

pub mark : (failed : Bool) → FieldBack mark_of (mark_text failed) failed
mark true = record { whole = refl; is = refl }
mark false = record { whole = refl; is = refl }

pub refusal : (form : Form) (r : Refusal) → IsTrue (is_refusal form r) → FieldBack (refusal_of form) (refusal_text r) r
unfolding digits
refusal form refusals.TooLong is = record { whole = refl; is = refl }
refusal form refusals.TooDeep is = record { whole = refl; is = refl }
refusal form refusals.NotWhole is = record { whole = refl; is = refl }
refusal form refusals.NotHex is = record { whole = refl; is = ap (λ b. only_if b refusals.NotHex) is }
refusal form refusals.NotWellFormed is = record { whole = refl; is = refl }
refusal form refusals.TooLarge is = record { whole = refl; is = refl }

digit_byte : (b : ℕ) → is_hex_digit b ≡ true → is_name_byte b ≡ true
digit_byte b is = grind (arith, is)

IsField-hex : (bytes : List ℕ) → IsBytes bytes → IsField (encode_lower bytes)
IsField-hex bytes are = pass_weaker is_hex_digit is_name_byte digit_byte (encode_lower bytes) (list_all-from_AllPass is_hex_digit (encode_lower bytes) (decode_of-ok (encode_lower bytes) bytes (decode_of-encode_lower bytes are)).1)

pub message : (form : Form) (m : Call) → HasMessage form m → FieldBack (message_of form) (message_text form m) m
message form m has = record { whole = IsField-hex _ has.0; is = ap (λ found. if_ok found >>= message_in form) (decode_of-encode_lower _ has.0) ∙ has.1 }

pub state : (form : Form) (v : Tree) → HasState form v → FieldBack (state_of form) (state_text v) v
state form v has = record { whole = IsField-hex _ has.0; is = ap (λ found. if_ok found >>= state_in form) (decode_of-encode_lower _ has.0) ∙ has.1 }

state_no_dash : (v : Tree) → same_text (state_text v) (codes "-") ≡ false
state_no_dash v = differ (state_text v) (codes "-") (λ e. omega (arith, length-encode_with lower_digits (state_bytes v), ap length e))

pub content : (form : Form) (c : Option Tree) → IfSome c (HasState form) → FieldBack (content_of form) (content_text c) c
content form None has = record { whole = refl; is = refl }
content form (Some v) has = record { whole = (state form v has).whole; is = rw (state_no_dash v, (state form v has).is) refl }
