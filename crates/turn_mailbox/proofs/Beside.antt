-- One open turn in place, beside those in a map.
use Rattle.std.proofs.Common.{◌≡◌, ℕ, Bool, true, false, ◌&&◌, ◌||◌, ◌==◌, cond, List, [], ◌∷◌, length, Option, Some, None, refl, ap, sym, ◌∙◌, subst, true≢false}
use Rattle.std.specs.Prelude.{T}
use Rattle.std.specs.declared.cmp.Ordering.TheVariants.{Less}
use Rattle.std.specs.Ordering.{nat_cmp, eq_by_cmp, is_eq, is_lt}
use Rattle.std.specs.Cmp.{nat_cmp_total, eq_by_cmp_equiv}
use Rattle.std.specs.Map.{lookup, keys_of, values_of}
use Rattle.std.specs.List.{list_any, AllByRecursion}
use Rattle.std.specs.List.Sorted.{IsStrictlySortedBy}
use Rattle.std.specs.BTreeMap as tree
use Rattle.std.specs.BTreeMap.{BTreeMap, UpdatesBy, IsOrdered}
use Rattle.std.specs.FinMap as map
use Rattle.std.specs.FinMap.{nat_cmp-IsAntisymmetric, find, from_entries, is_sorted}
use Rattle.std.specs.FinMap.Entries.{below_all}
use Rattle.std.proofs.lemmas.Bool.Decides.{Decides-eqb, same_from_decides}
use Rattle.finite_maps.proofs.Choices.{cond-apart}
use Rattle.finite_maps.proofs.Ascending.{entries-ascending}
use Rattle.finite_maps.proofs.Entries.{get-lookup}
use Rattle.finite_maps.specs.Keys.{AreKeys}
use Rattle.finite_maps.proofs.Keys.{key_ties, key_turned, keys_by_order, numbers, same_key}
use Rattle.grain_id.specs.Names.{Client}
use Rattle.grain_id.proofs.Order.{eq_by_cmp-Decides}
use Rattle.finite_maps.proofs.Maps as maps
use Rattle.turn_mailbox.specs.declared.request.Request.{Request}
use Rattle.turn_mailbox.specs.Contents.{is_from}
use Rattle.turn_mailbox.specs.inside.Beside.{with_one, IsBeside, is_one, is_from_one}
use Rattle.turn_mailbox.proofs.Rule.{Turns}
use Rattle.finite_maps.proofs.Values.{any-insert}

abbrev Others : Type 0
Others = BTreeMap ℕ Request

-- what a map of turns shows
abbrev pub shown : Others → Turns
shown m = from_entries m.entries

alike : (m n : Turns) → ((q : ℕ) → map.get m q ≡ map.get n q) → m ≡ n
alike = maps.alike nat_cmp_total nat_cmp-IsAntisymmetric

by_order : AreKeys (eq_by_cmp nat_cmp) nat_cmp
by_order = keys_by_order nat_cmp_total nat_cmp-IsAntisymmetric

tied : (q k : ℕ) → eq_by_cmp nat_cmp q k ≡ true → q ≡ k
tied = same_key by_order

same : (n k : ℕ) → (n == k) ≡ true → n ≡ k
same = same_key numbers

differ : (n k : ℕ) → (n == k) ≡ false → eq_by_cmp nat_cmp n k ≡ false
differ n k e = key_ties numbers n k ∙ e

turned : (n k : ℕ) → eq_by_cmp nat_cmp n k ≡ eq_by_cmp nat_cmp k n
turned = key_turned by_order

-- ---- what is found

pub get-one : (one : Option Request) (others : Turns) (n : ℕ) → is_one n one ≡ true → one ≡ map.get (with_one one others) n
get-one None others n e = absurd (true≢false (sym e))
get-one (Some turn) others n e = sym (maps.get-insert_same nat_cmp_total nat_cmp-IsAntisymmetric others turn.number turn) ∙ ap (map.get (map.insert others turn.number turn)) (same turn.number n e)

pub get-beside : (one : Option Request) (others : Turns) (n : ℕ) → is_one n one ≡ false → map.get others n ≡ map.get (with_one one others) n
get-beside None others n e = refl
get-beside (Some turn) others n e = sym (maps.get-insert_other nat_cmp_total nat_cmp-IsAntisymmetric others turn.number n turn (turned n turn.number ∙ differ turn.number n e))

pub get-others : (m : Others) (q : ℕ) → map.get (shown m) q ≡ tree.get nat_cmp m q
get-others m q = get-lookup by_order m.entries q

pub get-some : (one : Option Request) (others : Turns) (turn : Request) → one ≡ Some turn → map.get (with_one one others) turn.number ≡ Some turn
get-some one others turn e = ap (λ o. map.get (with_one o others) turn.number) e ∙ maps.get-insert_same nat_cmp_total nat_cmp-IsAntisymmetric others turn.number turn

-- ---- a turn in place

-- of the number of the one before
pub one-again : (one : Option Request) (others : Turns) (n : ℕ) (turn : Request) → is_one n one ≡ true → map.insert others n turn ≡ map.insert (with_one one others) n turn
one-again None others n turn e = absurd (true≢false (sym e))
one-again (Some before) others n turn e =
    sym (maps.insert-insert nat_cmp_total nat_cmp-IsAntisymmetric others n before turn) ∙ ap (λ k. map.insert (map.insert others k before) n turn) (sym (same before.number n e))

-- where no turn is open
no_turn : (one : Option Request) (others : Turns) → map.len (with_one one others) ≡ 0 → (one ≡ None) × (others ≡ map.empty)
no_turn None others e = (refl, map.empty_of_len others e)
no_turn (Some turn) others e = absurd (maps.found_some (map.insert others turn.number turn) turn.number turn (maps.get-insert_same nat_cmp_total nat_cmp-IsAntisymmetric others turn.number turn) e)

pub beside-first : (one : Option Request) (others : Turns) (n : ℕ) → (map.len (with_one one others) == 0) ≡ true → map.get others n ≡ None
beside-first one others n e = ap (λ (m : Turns). map.get m n) (no_turn one others (same (map.len (with_one one others)) 0 e)).1 ∙ map.get-empty nat_cmp n

pub one-first : (one : Option Request) (others : Turns) → (map.len (with_one one others) == 0) ≡ true → others ≡ with_one one others
one-first one others e = ap (λ o. with_one o others) (sym (no_turn one others (same (map.len (with_one one others)) 0 e)).0)

-- that is closed
pub one-removed : (one : Option Request) (others : Turns) (n : ℕ) → IsBeside one others → is_one n one ≡ true → others ≡ map.remove (with_one one others) n
one-removed None others n beside e = absurd (true≢false (sym e))
one-removed (Some turn) others n beside e =
    sym (maps.taken_back nat_cmp_total nat_cmp-IsAntisymmetric others turn.number turn beside)
    ∙ ap (map.remove (map.insert others turn.number turn)) (same turn.number n e)

-- ---- a change of the map, at another number than that of the one in place

module _ (m n : Others) (k : ℕ) (o : Option Request) (u : UpdatesBy nat_cmp (nat_cmp k) m n o) where
  get-updated : (q : ℕ) → map.get (shown n) q ≡ cond (eq_by_cmp nat_cmp q k) o (map.get (shown m) q)
  get-updated q = get-others n q ∙ u.0 q ∙ (λ i. cond (turned k q i) o (sym (get-others m q) i))

  pub beside-updated : (one : Option Request) → IsBeside one (shown m) → is_one k one ≡ false → IsBeside one (shown n)
  beside-updated None beside e = tt
  beside-updated (Some turn) beside e = get-updated turn.number ∙ ap (λ b. cond b o (map.get (shown m) turn.number)) (differ turn.number k e) ∙ beside

  get-with_one : (one : Option Request) → is_one k one ≡ false → (q : ℕ) → map.get (with_one one (shown n)) q ≡ cond (eq_by_cmp nat_cmp q k) o (map.get (with_one one (shown m)) q)
  get-with_one None e q = get-updated q
  get-with_one (Some turn) e q =
      map.get-insert nat_cmp_total (shown n) turn.number turn q
      ∙ ap (cond (eq_by_cmp nat_cmp q turn.number) (Some turn)) (get-updated q)
      ∙ cond-apart (eq_by_cmp nat_cmp q turn.number) (eq_by_cmp nat_cmp q k) (Some turn) o (map.get (shown m) q)
      (λ a b. true≢false (sym ((Decides-eqb turn.number k).1 (sym (tied q turn.number a) ∙ tied q k b)) ∙ e))
      ∙ ap (cond (eq_by_cmp nat_cmp q k) o) (sym (map.get-insert nat_cmp_total (shown m) turn.number turn q))

pub other-opened : (one : Option Request) (m n : Others) (k : ℕ) (turn : Request) → UpdatesBy nat_cmp (nat_cmp k) m n (Some turn) → is_one k one ≡ false → with_one one (shown n) ≡ map.insert (with_one one (shown m)) k turn
other-opened one m n k turn u e = alike _ _ (λ q. get-with_one m n k (Some turn) u one e q ∙ sym (map.get-insert nat_cmp_total (with_one one (shown m)) k turn q))

pub other-removed : (one : Option Request) (m n : Others) (k : ℕ) → UpdatesBy nat_cmp (nat_cmp k) m n None → is_one k one ≡ false → with_one one (shown n) ≡ map.remove (with_one one (shown m)) k
other-removed one m n k u e = alike _ _ (λ q. get-with_one m n k None u one e q ∙ sym (map.get-remove nat_cmp_total (with_one one (shown m)) k q))

-- ---- all turns

entries-shown : (m : Others) → IsOrdered nat_cmp m → map.entries (shown m) ≡ m.entries
entries-shown m ordered = entries-ascending nat_cmp_total nat_cmp-IsAntisymmetric m.entries ordered

-- whether there is none
pub none-shown : (one : Option Request) (m : Others) → IsOrdered nat_cmp m → one ≡ None → (length m.entries == 0) ≡ (map.len (with_one one (shown m)) == 0)
none-shown one m ordered none = ap (λ n. n == 0) (ap length (sym (entries-shown m ordered)) ∙ sym (map.len-entries (shown m)) ∙ ap (λ o. map.len (with_one o (shown m))) (sym none))

pub some-shown : (one : Option Request) (others : Turns) (turn : Request) → one ≡ Some turn → (b : Bool) → (map.len (with_one one others) == 0) ≡ b → false ≡ b
some-shown one others turn some false e = refl
some-shown one others turn some true e = absurd (let none = (no_turn one others (same (map.len (with_one one others)) 0 e)).0 in cc (some, none))

-- whether one of them came from a client
module _ (client : Client) (one : Option Request) (m : Others) (beside : IsBeside one (shown m)) (ordered : IsOrdered nat_cmp m) where
  any-shown : is_from_one client one || list_any (is_from client) (values_of m.entries) ≡ list_any (is_from client) (map.values (with_one one (shown m)))
  any-shown = by one beside
    where
      by : (one : Option Request) → IsBeside one (shown m) → is_from_one client one || list_any (is_from client) (values_of m.entries) ≡ list_any (is_from client) (map.values (with_one one (shown m)))
      by None beside = ap (λ es. list_any (is_from client) (values_of es)) (sym (entries-shown m ordered))
      by (Some turn) beside =
          ap (λ es. is_from client turn || list_any (is_from client) (values_of es)) (sym (entries-shown m ordered))
          ∙ sym (any-insert nat_cmp_total (is_from client) (shown m) turn.number turn beside)

  either_true : (b c : Bool) → c ≡ true → c ≡ b || c
  either_true true c e = e
  either_true false c e = refl

  first_alone : (b c : Bool) → c ≡ false → b ≡ b || c
  first_alone true c e = refl
  first_alone false c e = sym e

  pub any-of-others : (b : Bool) → b ≡ list_any (is_from client) (values_of m.entries) → b ≡ true → b ≡ list_any (is_from client) (map.values (with_one one (shown m)))
  any-of-others b is e = is ∙ either_true (is_from_one client one) _ (sym is ∙ e) ∙ any-shown

  pub any-of-one : (b : Bool) → b ≡ list_any (is_from client) (values_of m.entries) → b ≡ false → is_from_one client one ≡ list_any (is_from client) (map.values (with_one one (shown m)))
  any-of-one b is e = first_alone (is_from_one client one) _ (sym is ∙ e) ∙ any-shown
