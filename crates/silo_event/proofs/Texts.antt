-- The text of a fault is one line of visible ASCII and spaces.
use Rattle.std.proofs.Common.{◌≡◌, ℕ, Bool, true, false, List, [], ◌∷◌, ◌++◌, refl, ap, sym, ◌∙◌, arith, true≢false}
use Rattle.std.specs.Prelude.{◌&&◌, nat_le, length, codes}
use Rattle.std.specs.List.{list_all}
use Rattle.std.proofs.lemmas.Bool.Decides.{nat_tests}
use Rattle.std.proofs.lemmas.Bool.{and_from, and_parts}
use Rattle.grain_id.specs.Words.{is_word_byte, is_name_byte, begins_with_letter, is_word, is_name}
use Rattle.grain_id.specs.Names.{Grain, is_grain, grain_text}
use Rattle.silo_event.specs.Visible.{is_visible, TextsAreVisible}
use Rattle.silo_event.specs.declared.fault.Fault.TheVariants.{UnknownTenant, UnknownKind, AcrossTenants, NoActivation, MailboxFull, NoNumber, StateChanged, VersionsSpent}

abbrev AreVisible : List ℕ → Type 0
AreVisible bytes = list_all is_visible bytes ≡ true

joined : (xs ys : List ℕ) → AreVisible xs → AreVisible ys → AreVisible (xs ++ ys)
joined [] ys p q = q
joined (x ∷ xs) ys p q =
    and_from (is_visible x) (list_all is_visible (xs ++ ys)) ((and_parts (is_visible x) (list_all is_visible xs) p).0) (joined xs ys ((and_parts (is_visible x) (list_all is_visible xs) p).1) q)

all_visible : (test : ℕ → Bool) → ((b : ℕ) → test b ≡ true → is_visible b ≡ true) → (bytes : List ℕ) → list_all test bytes ≡ true → AreVisible bytes
all_visible test each [] e = refl
all_visible test each (b ∷ bytes) e =
    and_from (is_visible b) (list_all is_visible bytes) (each b ((and_parts (test b) (list_all test bytes) e).0)) (all_visible test each bytes ((and_parts (test b) (list_all test bytes) e).1))

word_byte : (b : ℕ) → is_word_byte b ≡ true → is_visible b ≡ true
word_byte b is = grind (arith, nat_tests)

name_byte : (b : ℕ) → is_name_byte b ≡ true → is_visible b ≡ true
name_byte b is = grind (arith, nat_tests)

word : (bytes : List ℕ) → is_word bytes ≡ true → AreVisible bytes
unfolding is_word
word bytes is = all_visible is_word_byte word_byte bytes ((and_parts (begins_with_letter bytes && nat_le (length bytes) 32) (list_all is_word_byte bytes) is).1)

last_part : (bytes : List ℕ) → is_name bytes ≡ true → AreVisible bytes
unfolding is_name
last_part bytes is = all_visible is_name_byte name_byte bytes ((and_parts (nat_le 1 (length bytes) && nat_le (length bytes) 128) (list_all is_name_byte bytes) is).1)

-- a name in the middle of a text
around : (before name after : List ℕ) → AreVisible before → AreVisible name → AreVisible after → AreVisible (before ++ name ++ after)
around before name after p q r = joined (before ++ name) after (joined before name p q) r

grain : (g : Grain) → is_grain g ≡ true → AreVisible (grain_text g)
grain g is =
    let words = (and_parts (is_word g.kind && is_word g.tenant) (is_name g.name) is).0 in
    joined g.kind (47 ∷ (g.tenant ++ 58 ∷ g.name)) (word g.kind ((and_parts (is_word g.kind) (is_word g.tenant) words).0))
    (joined g.tenant (58 ∷ g.name) (word g.tenant ((and_parts (is_word g.kind) (is_word g.tenant) words).1)) (last_part g.name ((and_parts (is_word g.kind && is_word g.tenant) (is_name g.name) is).1)))

pub texts_are_visible : TextsAreVisible
texts_are_visible (UnknownTenant tenant) named = around (codes "tenant ") tenant (codes " is unknown") refl (word tenant named) refl
texts_are_visible (UnknownKind kind) named = around (codes "kind ") kind (codes " is unknown") refl (word kind named) refl
texts_are_visible (AcrossTenants from to) named = joined (codes "tenant " ++ from ++ codes " may not call a grain of tenant ") to (around (codes "tenant ") from (codes " may not call a grain of tenant ") refl (word from named.0) refl) (word to named.1)
texts_are_visible (NoActivation tenant) named = around (codes "tenant ") tenant (codes " has no free activation") refl (word tenant named) refl
texts_are_visible (MailboxFull g) named = around (codes "mailbox of ") (grain_text g) (codes " is full") refl (grain g named) refl
texts_are_visible (NoNumber tenant) named = around (codes "tenant ") tenant (codes " has no request number left") refl (word tenant named) refl
texts_are_visible (StateChanged g) named = around (codes "stored state of ") (grain_text g) (codes " has changed") refl (grain g named) refl
texts_are_visible (VersionsSpent g) named = around (codes "versions of ") (grain_text g) (codes " are spent") refl (grain g named) refl
texts_are_visible _ named = refl
