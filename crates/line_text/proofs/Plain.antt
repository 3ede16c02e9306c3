-- Texts that stand in JSON as they are.
use Rattle.std.proofs.Common.{◌≡◌, ◌≢◌, ◌≤◌, ◌++◌, ℕ, List, [], ◌∷◌, Bool, true, false, true≢false, ◌==◌, nat_lt, Result, Ok, Err, OnOk, refl, ap, ap₂, sym, ◌∙◌, append_assoc, arith}
use Rattle.std.specs.Prelude.{cond, not, ◌||◌, IsTrue, is_ok}
use Rattle.std.specs.List.{list_all}
use Rattle.std.proofs.lemmas.Bool.Decides.{Decides-eqb, nat_tests}
use Rattle.std.proofs.lemmas.Grind.{flat_map-append}
use Rattle.std.proofs.lemmas.List.Concat.{flat_map-cons}
use Rattle.json.specs.Print.{escape_byte, escape, escape_letter, quoted}
use Rattle.std.proofs.lemmas.Bool.{and_parts}
use Rattle.line_text.specs.inside.Standing.{stands}
use Rattle.grain_id.specs.Words.{is_word, is_word_byte}
use Rattle.grain_id.specs.Names.{Client, is_client, client_text}

is_not : (b : Bool) → not b ≡ true → b ≡ false
is_not false is = refl
is_not true is = absurd (true≢false (sym is))

-- it is no control character
other : (x k : ℕ) → nat_lt x 32 ≡ false → nat_lt k 32 ≡ true → (x == k) ≡ false
other x k large small = by (x == k) refl
  where
    by : (b : Bool) → (x == k) ≡ b → (x == k) ≡ false
    by false is = is
    by true is = absurd (true≢false (sym small ∙ sym (ap (λ y. nat_lt y 32) ((Decides-eqb x k).0 is)) ∙ large))

module _ (x : ℕ) (large : nat_lt x 32 ≡ false) (no_quote : (x == 34) ≡ false) (no_slash : (x == 92) ≡ false) where
  no_letter : escape_letter x ≡ 0
  no_letter =
      (λ i. cond (no_quote i || no_slash i) x
      (cond (other x 8 large refl i) 98 (cond (other x 12 large refl i) 102 (cond (other x 10 large refl i) 110 (cond (other x 13 large refl i) 114 (cond (other x 9 large refl i) 116 0))))))

  -- whatever a control character has
  own_beside : (control : List ℕ) → cond (nat_lt 0 (escape_letter x)) (92 ∷ escape_letter x ∷ []) (cond (nat_lt x 32) control (x ∷ [])) ≡ x ∷ []
  own_beside control =
      ap (λ (letter : ℕ). cond (nat_lt 0 letter) (92 ∷ letter ∷ []) (cond (nat_lt x 32) control (x ∷ []))) no_letter
      ∙ ap (λ (b : Bool). cond b control (x ∷ [])) large

  own_byte : escape_byte x ≡ x ∷ []
  unfolding escape_byte
  own_byte = own_beside _

own_escape : (x : ℕ) → stands x ≡ true → escape_byte x ≡ x ∷ []
own_escape x is =
    let first = and_parts (not (nat_lt x 32)) _ is in
    let rest = and_parts (not (x == 34)) (not (x == 92)) first.1 in
    own_byte x (is_not (nat_lt x 32) first.0) (is_not (x == 34) rest.0) (is_not (x == 92) rest.1)

escapes : (s : List ℕ) → list_all stands s ≡ true → escape s ≡ s
escapes [] is = refl
escapes (x ∷ s) is =
    let both = and_parts (stands x) (list_all stands s) is in
    flat_map-cons escape_byte x s ∙ ap₂ (λ l m. l ++ m) (own_escape x both.0) (escapes s both.1)

quoted_as_is : (s : List ℕ) → list_all stands s ≡ true → quoted s ≡ 34 ∷ (s ++ 34 ∷ [])
quoted_as_is s is = ap (λ escaped. 34 ∷ (escaped ++ 34 ∷ [])) (escapes s is)

-- what is left where a text was put between two quotes as it is
pub as_is_after : {X E : Type 0} (r : Result X E) (part before one two new : List ℕ) → list_all stands part ≡ true → one ≡ before ++ 34 ∷ [] → two ≡ one ++ part → new ≡ cond (is_ok r) (two ++ 34 ∷ []) two → OnOk r (new ≡ before ++ quoted part)
as_is_after (Ok x) part before one two new is e f g =
    g ∙ ap (λ l. l ++ 34 ∷ []) (f ∙ ap (λ l. l ++ part) e)
    ∙ append_assoc (before ++ 34 ∷ []) part (34 ∷ []) ∙ append_assoc before (34 ∷ []) (part ++ 34 ∷ []) ∙ ap (λ l. before ++ l) (sym (quoted_as_is part is))
as_is_after (Err x) part before one two new is e f g = tt

escape_byte-plain : (x : ℕ) → 45 ≤ x → x ≢ 92 → escape_byte x ≡ x ∷ []
escape_byte-plain x h apart = own_byte x (grind (arith, nat_tests)) (grind (arith, nat_tests)) (grind (arith, nat_tests))

word_byte-plain : (x : ℕ) → is_word_byte x ≡ true → escape_byte x ≡ x ∷ []
word_byte-plain x h = escape_byte-plain x (grind (arith, nat_tests)) (λ e. grind (arith, nat_tests))

escape-plain : (s : List ℕ) → list_all is_word_byte s ≡ true → escape s ≡ s
escape-plain [] h = refl
escape-plain (x ∷ s) h =
    let parts = and_parts (is_word_byte x) (list_all is_word_byte s) h in
    flat_map-cons escape_byte x s ∙ ap₂ (λ l m. l ++ m) (word_byte-plain x parts.0) (escape-plain s parts.1)

escape-word : (s : List ℕ) → is_word s ≡ true → escape s ≡ s
unfolding is_word
escape-word s h = escape-plain s (and_parts _ (list_all is_word_byte s) h).1

-- a caller's text has nothing to escape
pub quoted-client_text : (c : Client) → IsTrue (is_client c) → quoted (client_text c) ≡ 34 ∷ (client_text c ++ 34 ∷ [])
quoted-client_text c h =
    let parts = and_parts (is_word c.tenant) (is_word c.client) h in
    let slash : escape (47 ∷ c.client) ≡ 47 ∷ c.client = flat_map-cons escape_byte 47 c.client ∙ ap₂ (λ l m. l ++ m) (escape_byte-plain 47 (omega arith) (omega arith)) (escape-word c.client parts.1) in
    ap (λ l. 34 ∷ (l ++ 34 ∷ [])) (flat_map-append escape_byte c.tenant (47 ∷ c.client) ∙ ap₂ (λ l m. l ++ m) (escape-word c.tenant parts.0) slash)

-- the same before what follows it
pub client_text-before : (c : Client) (rest : List ℕ) → IsTrue (is_client c) → quoted (client_text c) ++ rest ≡ 34 ∷ (client_text c ++ 34 ∷ rest)
client_text-before c rest h = ap (λ l. l ++ rest) (quoted-client_text c h) ∙ ap (λ l. 34 ∷ l) (append_assoc (client_text c) (34 ∷ []) rest)
