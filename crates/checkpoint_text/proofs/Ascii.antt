-- A checkpoint's text is of ASCII, but for its last line, of which nothing is asked.
use Rattle.std.proofs.Common.{◌≡◌, ℕ, zero, suc, ◌<◌, true, List, [], ◌∷◌, ◌++◌, length, refl, arith}
use Rattle.std.specs.Prelude.{All, codes, decimal, flat_map}
use Rattle.std.specs.Cmp.{first_so, second_so}
use Rattle.std.specs.List.{list_all}
use Rattle.std.specs.Str.{IsAscii, IsUtf8}
use Rattle.std.proofs.lemmas.Bool.{ltb-true}
use Rattle.std.proofs.lemmas.List.Elements.{All-head, All-tail}
use Rattle.std.proofs.lemmas.Str.{IsUtf8-from_ascii}
use Rattle.grain_id.specs.Names.{Grain}
use Rattle.tenant_accounts.specs.Kept.{KeptAccount, Send}
use Rattle.silo_model.specs.Opening.{KeptGrain}
use Rattle.journal_text.specs.RecordedFault.{is_text_byte}
use Rattle.journal_text.specs.Text.{◌␣◌}
use Rattle.journal_text.proofs.Cuts.{IsField, pass_append, pass_weaker}
use Rattle.journal_text.proofs.FieldsBack.{last, number, plain_field, plain_more, wide}
use Rattle.checkpoint_text.specs.Rules.{IsAccount, IsCheckpoint, IsGrain, IsSend, is_ascii_byte}
use Rattle.checkpoint_text.specs.Text.{Checkpoint, account_fields, account_text, accounts_text, body_text, grain_fields, grain_line, grains_text, named, send_fields, send_line, start_text}
use Rattle.checkpoint_text.proofs.Back.{fields_of_account, fields_of_grain, fields_of_send}

abbrev AreAscii : List ℕ → Type 0
AreAscii xs = list_all is_ascii_byte xs ≡ true

pub ascii_byte : (b : ℕ) → is_text_byte b ≡ true → is_ascii_byte b ≡ true
ascii_byte b is = grind (arith, is)

pub both : (xs ys : List ℕ) → AreAscii xs → AreAscii ys → AreAscii (xs ++ ys)
both xs ys = pass_append is_ascii_byte xs ys

line : (word fields : List ℕ) → IsField word → list_all is_text_byte fields ≡ true → AreAscii (named word fields)
unfolding named
line word fields is plain =
    both (word ␣ fields) (10 ∷ []) (pass_weaker is_text_byte is_ascii_byte ascii_byte (word ␣ fields) (plain_more word fields is plain)) refl

pub each : {A : Type 0} (text : A → List ℕ) (Is : A → Type 0) → ((x : A) → Is x → AreAscii (text x)) → (xs : List A) → All Is xs → AreAscii (flat_map text xs)
each text Is one [] all = refl
each text Is one (x ∷ xs) all = both (text x) (flat_map text xs) (one x (All-head Is x xs all)) (each text Is one xs (All-tail Is x xs all))

send : (s : Send) → IsSend s → AreAscii (send_line s)
unfolding send_line
send s is = line (codes "send") (send_fields s) refl (fields_of_send s is).plain

account : (a : List ℕ × KeptAccount) → IsAccount a → AreAscii (account_text a)
unfolding account_text
account a is =
    both (named (codes "account") (account_fields a)) (flat_map send_line a.1.sends) (line (codes "account") (account_fields a) refl (fields_of_account a is).plain) (each send_line IsSend send a.1.sends is.3)

grain : (g : Grain × KeptGrain) → IsGrain g → AreAscii (grain_line g)
unfolding grain_line
grain g is = line (codes "up") (grain_fields g) refl (fields_of_grain g is).plain

module _ (c : Checkpoint) (is : IsCheckpoint c) where
  start : AreAscii (start_text c)
  unfolding named
  start =
      let one = named (codes "silo-checkpoint") (codes "1") in
      let two = named (codes "follows") c.follows in
      let three = named (codes "sends") (decimal c.sends) in
      let four = named (codes "clock") (decimal c.clock) in
      both (one ++ two ++ three) four
      (both (one ++ two) three (both one two refl (line (codes "follows") c.follows refl (plain_field c.follows is.follows))) (line (codes "sends") (decimal c.sends) refl (last (wide c.sends is.sends)).plain))
      (line (codes "clock") (decimal c.clock) refl (last (number c.clock is.clock)).plain)

  accounts : AreAscii (accounts_text c.accounts)
  accounts =
      both (named (codes "accounts") (decimal (length c.accounts))) (flat_map account_text c.accounts) (line (codes "accounts") (decimal (length c.accounts)) refl (last (wide (length c.accounts) is.fewer.0)).plain) (each account_text IsAccount account c.accounts is.accounts)

  grains : AreAscii (grains_text c.grains)
  grains =
      both (named (codes "grains") (decimal (length c.grains))) (flat_map grain_line c.grains) (line (codes "grains") (decimal (length c.grains)) refl (last (wide (length c.grains) is.fewer.1)).plain) (each grain_line IsGrain grain c.grains is.grains)

  body_ascii : AreAscii (body_text c)
  body_ascii =
      both (start_text c ++ accounts_text c.accounts ++ grains_text c.grains) c.journal
      (both (start_text c ++ accounts_text c.accounts) (grains_text c.grains) (both (start_text c) (accounts_text c.accounts) start accounts) grains) is.journal

small : (b : ℕ) → is_ascii_byte b ≡ true → b < 128
small b is = ltb-true b 128 is

are_ascii : (xs : List ℕ) → AreAscii xs → IsAscii xs
are_ascii [] all i = omega arith
are_ascii (x ∷ xs) all zero = small x (first_so (is_ascii_byte x) (list_all is_ascii_byte xs) all)
are_ascii (x ∷ xs) all (suc i) = are_ascii xs (second_so (is_ascii_byte x) (list_all is_ascii_byte xs) all) i

-- it is UTF-8
pub body_utf8 : (c : Checkpoint) → IsCheckpoint c → IsUtf8 (body_text c)
body_utf8 c is = IsUtf8-from_ascii (body_text c) (are_ascii (body_text c) (body_ascii c is))
