-- What may stand in a checkpoint, by what types keep and what is checked.
use Rattle.std.proofs.Common.{◌≡◌, ◌≤◌, ◌<◌, ◌+◌, Bool, true, false, ◌&&◌, ℕ, List, [], ◌∷◌, ◌++◌, length, get_or, map, take, ap, refl, subst, sym, ◌∙◌}
use Rattle.std.specs.Prelude.{◌↔◌, All, IsTrue, nat_le}
use Rattle.std.specs.Cmp.{first_so, second_so}
use Rattle.std.specs.List.{list_all}
use Rattle.std.proofs.lemmas.Bool.{and_from}
use Rattle.std.proofs.lemmas.List.{map-append, take_all, take_more}
use Rattle.std.proofs.lemmas.List.Folds.{list_all-map}
use Rattle.std.proofs.lemmas.List.Elements.{All-append, All-cons, All-head, All-nil, All-tail}
use Rattle.grain_id.specs.Words.{begins_with_letter, is_name_byte, is_word_byte}
unfoldable use Rattle.grain_id.specs.Words.{is_word}
use Rattle.tenant_accounts.specs.Kept.{KeptAccount}
use Rattle.tenant_accounts.specs.Parts.{kept_in}
use Rattle.tenant_accounts.specs.declared.parts.AccountParts.{AccountParts}
use Rattle.checkpoint_text.specs.Rules.{IsAccount, IsCheckpoint, has_word, is_ascii_byte, is_spelled}
use Rattle.checkpoint_text.specs.Text.{Checkpoint}
use Rattle.checkpoint_text.specs.inside.Kept.{KeepsAccount, KeepsRules}

named : (accounts : List (List ℕ × KeptAccount)) → All KeepsAccount accounts → list_all has_word accounts ≡ true → All IsAccount accounts
named [] keeps words = All-nil IsAccount
named (a ∷ accounts) keeps words =
    let k = All-head KeepsAccount a accounts keeps in
    All-cons IsAccount a accounts (first_so (has_word a) (list_all has_word accounts) words, k.0, k.1, k.2)
    (named accounts (All-tail KeepsAccount a accounts keeps) (second_so (has_word a) (list_all has_word accounts) words))

pub words : (accounts : List (List ℕ × KeptAccount)) → All IsAccount accounts → list_all has_word accounts ≡ true
words [] all = refl
words (a ∷ accounts) all =
    and_from (has_word a) (list_all has_word accounts) (All-head IsAccount a accounts all).0 (words accounts (All-tail IsAccount a accounts all))

module _ (c : Checkpoint) where
  abbrev follows : Bool
  follows = list_all is_name_byte c.follows

  abbrev have_words : Bool
  have_words = list_all has_word c.accounts

  abbrev ascii : Bool
  ascii = list_all is_ascii_byte c.journal

  stands_so : KeepsRules c → is_spelled c ≡ true → IsCheckpoint c
  stands_so keeps is =
      let front = first_so (follows && have_words) ascii is in
      record {
        follows = first_so follows have_words front;
        sends = keeps.sends;
        clock = keeps.clock;
        fewer = keeps.fewer;
        accounts = named c.accounts keeps.accounts (second_so follows have_words front);
        grains = keeps.grains;
        journal = second_so (follows && have_words) ascii is;
      }

  pub spelled_so : IsCheckpoint c → is_spelled c ≡ true
  spelled_so is = and_from (follows && have_words) ascii (and_from follows have_words is.follows (words c.accounts is.accounts)) is.journal

  pub stands_if : (b : Bool) → KeepsRules c → b ≡ is_spelled c → IsTrue b ↔ IsCheckpoint c
  stands_if b keeps test = (λ is. stands_so keeps (sym test ∙ is), λ is. test ∙ spelled_so is)

-- ---- lists that are looked at

-- what holds of the first ones, as they are seen, and of the next
pub seen_more : {X A : Type 0} (seen : X → A) (P : A → Type 0) (xs : List X) (i : ℕ) (x : X) → i < length xs → x ≡ get_or xs i x → All P (map seen (take i xs)) → P (seen x) → All P (map seen (take (i + 1) xs))
seen_more seen P xs i x within is all next =
    subst (λ (ys : List _). All P (map seen ys)) (sym (take_more xs i x within ∙ ap (λ y. take i xs ++ y ∷ []) (sym is)))
    (subst (All P) (sym (map-append seen (take i xs) (x ∷ []))) (All-append P (map seen (take i xs)) (seen x ∷ []) all (All-cons P (seen x) [] next (All-nil P))))

-- what holds of as many as there are
pub seen_all : {X A : Type 0} (seen : X → A) (P : A → Type 0) (xs : List X) (i : ℕ) → length xs ≤ i → All P (map seen (take i xs)) → All P (map seen xs)
seen_all seen P xs i few all = subst (λ (ys : List _). All P (map seen ys)) (take_all i xs few) all

-- ---- what is checked

pub word_by : (bytes text : List ℕ) (b : Bool) → bytes ≡ text → b ≡ (begins_with_letter bytes && nat_le (length bytes) 32 && list_all is_word_byte bytes) → b ≡ is_word text
unfolding is_word
word_by bytes text b same is = is ∙ ap is_word same

pub no_first : (a b c : Bool) → a ≡ false → false ≡ (a && b && c)
no_first a b c e = sym (ap (λ x. x && b && c) e)

pub no_second : (a b c : Bool) → b ≡ false → false ≡ (a && b && c)
no_second true b c e = sym (ap (λ x. x && c) e)
no_second false b c e = refl

pub the_third : (a b c : Bool) → a ≡ true → b ≡ true → c ≡ (a && b && c)
the_third a b c e f = sym (ap (λ x. x && b && c) e ∙ ap (λ x. x && c) f)

-- names, as they are seen
pub words_seen : (accounts : List AccountParts) (b : Bool) → b ≡ list_all (λ account. has_word (kept_in account)) accounts → b ≡ list_all has_word (map kept_in accounts)
words_seen accounts b is = is ∙ sym (list_all-map has_word kept_in accounts)
