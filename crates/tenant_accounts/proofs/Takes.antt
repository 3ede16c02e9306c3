-- What was sent, by numbers that rise: what is found, what comes last, and what is left without the first of a grain or the last of all.
use Rattle.std.proofs.Common.{◌≡◌, ℕ, ◌+◌, ◌-◌, ◌<◌, ◌≤◌, Bool, true, false, cond, List, [], ◌∷◌, ◌++◌, length, Option, Some, None, refl, ap, sym, ◌∙◌, subst, arith, rules, take}
use Rattle.std.specs.Prelude.{option_map, if◌then◌else◌, IfNone, slice_get, map as map_list}
use Rattle.std.specs.Option.{option_copied}
use Rattle.std.specs.Borrow.{Bor}
use Rattle.std.proofs.lemmas.List.{append_cancel_left}
use Rattle.std.specs.declared.cmp.Ordering.TheVariants.{Equal, Greater}
use Rattle.std.specs.Ordering.{nat_cmp, is_eq, match_ordering}
use Rattle.std.specs.Map.{lookup, remove_entry}
use Rattle.std.specs.BTreeMap.{insert_entry}
use Rattle.std.specs.Cmp.{Equal-is, eq_by_cmp_equiv}
use Rattle.grain_id.specs.Names.{Grain, grain_cmp}
use Rattle.grain_id.proofs.Order.{grain_ties, grain_cmp_total, grain_cmp_exact}
use Rattle.tenant_accounts.specs.Kept.{Send}
use Rattle.tenant_accounts.specs.Sends.{first_from}
use Rattle.tenant_accounts.specs.declared.account.Sent.{Sent}
use Rattle.tenant_accounts.specs.Sends.{send_of}
use Rattle.tenant_accounts.specs.inside.Deliveries.{without_first, FindsFirst}
use Rattle.tenant_accounts.specs.inside.Undelivered.{Index, is_grain, numbers_at, numbers_of, Rises, IsIndexed, IsSameIndex, AddsLast, TakesFirst, TakesLast, only_at}
use Rattle.tenant_accounts.proofs.Queues.{only_own, all_but_last, last_gone}

-- as the account shows them
abbrev pub shown : List (ℕ × Sent) → List Send
shown es = map_list (λ e. send_of e.1) es

-- ---- numbers that rise

pub bounds : (low next : ℕ) (es : List (ℕ × Sent)) → Rises low next es → low ≤ next
bounds low next [] rise = rise
bounds low next (e ∷ es) rise = let rest = bounds (e.0 + 1) next es rise.1 in let first = rise.0 in omega (arith, rest, first)

pub rise_from : (low more next : ℕ) (es : List (ℕ × Sent)) → low ≤ more → Rises more next es → Rises low next es
rise_from low more next [] h rise = omega (arith, h, rise)
rise_from low more next (e ∷ es) h rise = let first = rise.0 in (omega (arith, h, first), rise.1)

pub rise_last : (low next : ℕ) (es : List (ℕ × Sent)) (s : Sent) → Rises low next es → Rises low (next + 1) (es ++ (next, s) ∷ [])
rise_last low next [] s rise = (rise, omega arith)
rise_last low next (e ∷ es) s rise = (rise.0, rise_last (e.0 + 1) next es s rise.1)

pub rise_without_last : (low next : ℕ) (es : List (ℕ × Sent)) (e : ℕ × Sent) → Rises low next (es ++ e ∷ []) → Rises low next es
rise_without_last low next [] e rise = let first = rise.0 in let last = rise.1 in omega (arith, first, last)
rise_without_last low next (x ∷ es) e rise = (rise.0, rise_without_last (x.0 + 1) next es e rise.1)

above : (m n : ℕ) → n < m → nat_cmp m n ≡ Greater
above m n h = search (rules, arith)

same_number : (n : ℕ) → nat_cmp n n ≡ Equal
same_number n = search (rules, arith)

-- what has the next number goes last
pub insert_last : (low next : ℕ) (es : List (ℕ × Sent)) (s : Sent) → Rises low next es → insert_entry nat_cmp es next s ≡ es ++ (next, s) ∷ []
insert_last low next [] s rise = refl
insert_last low next (e ∷ es) s rise =
    let more = bounds (e.0 + 1) next es rise.1 in
    ap (λ o. match_ordering o ((next, s) ∷ e ∷ es) ((e.0, s) ∷ es) (e ∷ insert_entry nat_cmp es next s)) (above next e.0 (omega (arith, more)))
    ∙ ap (λ rest. e ∷ rest) (insert_last (e.0 + 1) next es s rise.1)

pub shown_last : (es : List (ℕ × Sent)) (e : ℕ × Sent) → shown (es ++ e ∷ []) ≡ shown es ++ send_of e.1 ∷ []
shown_last [] e = refl
shown_last (x ∷ es) e = ap (λ rest. send_of x.1 ∷ rest) (shown_last es e)

-- all but the last
pub shown_without_last : (es : List (ℕ × Sent)) (e : ℕ × Sent) → shown es ≡ take (length (shown (es ++ e ∷ [])) - 1) (shown (es ++ e ∷ []))
shown_without_last es e = all_but_last (shown es) (send_of e.1) ∙ ap (λ sends. take (length sends - 1) sends) (sym (shown_last es e))

-- ---- the numbers of a grain

cond_last : (b : Bool) (n : ℕ) (ns ms rest : List ℕ) → ns ≡ ms ++ rest → (if b then n ∷ ns else ns) ≡ (if b then n ∷ ms else ms) ++ rest
cond_last true n ns ms rest same = ap (λ ns. n ∷ ns) same
cond_last false n ns ms rest same = same

pub numbers_last : (g : Grain) (es : List (ℕ × Sent)) (n : ℕ) (s : Sent) → numbers_of g (es ++ (n, s) ∷ []) ≡ numbers_of g es ++ only_at s.source (n ∷ []) g
numbers_last g [] n s = refl
numbers_last g (e ∷ es) n s = cond_last (is_grain e.1.source g) e.0 _ _ _ (numbers_last g es n s)

cond_first : (b : Bool) (n : ℕ) (ns : List ℕ) → (if b then n ∷ ns else ns) ≡ (if b then n ∷ [] else []) ++ ns
cond_first true n ns = refl
cond_first false n ns = refl

-- a grain's numbers lie above the bound
numbers_above : (g : Grain) (low next : ℕ) (es : List (ℕ × Sent)) (n : ℕ) (ns : List ℕ) → Rises low next es → numbers_of g es ≡ n ∷ ns → low ≤ n
numbers_above g low next [] n ns rise is = absurd cc
numbers_above g low next (e ∷ es) n ns rise is = by (is_grain e.1.source g) refl (numbers_above g (e.0 + 1) next es n ns rise.1)
  where
    by : (b : Bool) → is_grain e.1.source g ≡ b → (numbers_of g es ≡ n ∷ ns → e.0 + 1 ≤ n) → low ≤ n
    by true t above =
        let same : e.0 ∷ numbers_of g es ≡ n ∷ ns = sym (ap (λ b. if b then e.0 ∷ numbers_of g es else numbers_of g es) t) ∙ is in
        let first : e.0 ≡ n = cc in
        subst (λ k. low ≤ k) first rise.0
    by false f above =
        let same : numbers_of g es ≡ n ∷ ns = sym (ap (λ b. if b then e.0 ∷ numbers_of g es else numbers_of g es) f) ∙ is in
        let later = above same in
        let first = rise.0 in
        omega (arith, later, first)

module _ (g : Grain) where
  -- a grain with no number sent nothing
  pub first_none : (es : List (ℕ × Sent)) → numbers_of g es ≡ [] → (first_from g (shown es) ≡ None) × (without_first g (shown es) ≡ shown es)
  first_none [] none = (refl, refl)
  first_none (e ∷ es) none = by (is_grain e.1.source g) refl (first_none es)
    where
      by : (b : Bool) → is_grain e.1.source g ≡ b → (numbers_of g es ≡ [] → (first_from g (shown es) ≡ None) × (without_first g (shown es) ≡ shown es)) → (first_from g (shown (e ∷ es)) ≡ None) × (without_first g (shown (e ∷ es)) ≡ shown (e ∷ es))
      by true t others =
          let same : e.0 ∷ numbers_of g es ≡ [] = sym (ap (λ b. if b then e.0 ∷ numbers_of g es else numbers_of g es) t) ∙ none in
          absurd cc
      by false f others =
          let same : numbers_of g es ≡ [] = sym (ap (λ b. if b then e.0 ∷ numbers_of g es else numbers_of g es) f) ∙ none in
          let other = grain_ties e.1.source g ∙ f in
          let rest = others same in (
            ap (λ b. if b then Some (send_of e.1, shown es) else option_map (λ found. (found.0, send_of e.1 ∷ found.1)) (first_from g (shown es))) other
                ∙ ap (option_map (λ found. (found.0, send_of e.1 ∷ found.1))) rest.0,
            ap (λ b. if b then shown es else send_of e.1 ∷ without_first g (shown es)) other ∙ ap (λ sends. send_of e.1 ∷ sends) rest.1,
          )

  -- What the first number of a grain leads to is the first that it sent.
  pub record IsFirst (low next : ℕ) (es : List (ℕ × Sent)) (n : ℕ) (ns : List ℕ) : Type 0 where
    pub sent : Sent
    pub found : lookup (λ k. is_eq (nat_cmp n k)) es ≡ Some sent
    pub first : first_from g (shown es) ≡ Some (send_of sent, without_first g (shown es))
    pub left : without_first g (shown es) ≡ shown (remove_entry (λ k. is_eq (nat_cmp n k)) es)
    pub numbers : (h : Grain) → numbers_of h es ≡ only_at g (n ∷ []) h ++ numbers_of h (remove_entry (λ k. is_eq (nat_cmp n k)) es)
    pub rise : Rises low next (remove_entry (λ k. is_eq (nat_cmp n k)) es)

  other_grain : (x h : Grain) → is_grain x g ≡ false → is_grain x h ≡ true → is_grain g h ≡ false
  other_grain x h f t = (eq_by_cmp_equiv grain_cmp_total).symm g h ∙ ap (λ k. is_grain k g) (sym (grain_cmp_exact x h ((Equal-is (grain_cmp x h)).0 t))) ∙ f

  pub first_is : (low next : ℕ) (es : List (ℕ × Sent)) (n : ℕ) (ns : List ℕ) → Rises low next es → numbers_of g es ≡ n ∷ ns → IsFirst low next es n ns
  first_is low next [] n ns rise is = absurd cc
  first_is low next (e ∷ es) n ns rise is = by (is_grain e.1.source g) refl (first_is (e.0 + 1) next es n ns rise.1)
    where
      here : ℕ → Bool
      here k = is_eq (nat_cmp n k)

      by : (b : Bool) → is_grain e.1.source g ≡ b → (numbers_of g es ≡ n ∷ ns → IsFirst (e.0 + 1) next es n ns) → IsFirst low next (e ∷ es) n ns
      by true t others =
          let same : e.0 ∷ numbers_of g es ≡ n ∷ ns = sym (ap (λ b. if b then e.0 ∷ numbers_of g es else numbers_of g es) t) ∙ is in
          let number : e.0 ≡ n = cc in
          let source : e.1.source ≡ g = grain_cmp_exact e.1.source g ((Equal-is (grain_cmp e.1.source g)).0 t) in
          let hit : here e.0 ≡ true = ap (λ k. is_eq (nat_cmp n k)) number ∙ ap is_eq (same_number n) in
          let own = grain_ties e.1.source g ∙ t in
          let gone : remove_entry here (e ∷ es) ≡ es = ap (λ b. cond b es (e ∷ remove_entry here es)) hit in
          let without : without_first g (shown (e ∷ es)) ≡ shown es = ap (λ b. if b then shown es else send_of e.1 ∷ without_first g (shown es)) own in
          record {
            sent = e.1;
            found = ap (λ b. cond b (Some e.1) (lookup here es)) hit;
            first = ap (λ b. if b then Some (send_of e.1, shown es) else option_map (λ found. (found.0, send_of e.1 ∷ found.1)) (first_from g (shown es))) own ∙ ap (λ rest. Some (send_of e.1, rest)) (sym without);
            left = without ∙ ap shown (sym gone);
            numbers = λ h. cond_first (is_grain e.1.source h) e.0 (numbers_of h es) ∙ (λ i. only_at (source i) (number i ∷ []) h ++ numbers_of h (sym gone i));
            rise = subst (Rises low next) (sym gone) (rise_from low (e.0 + 1) next es (let first = rise.0 in omega (arith, first)) rise.1);
          }
      by false f others =
          let same : numbers_of g es ≡ n ∷ ns = sym (ap (λ b. if b then e.0 ∷ numbers_of g es else numbers_of g es) f) ∙ is in
          let rest = others same in
          let later = numbers_above g (e.0 + 1) next es n ns rise.1 same in
          let miss : here e.0 ≡ false = ap is_eq (above n e.0 (omega (arith, later))) in
          let other = grain_ties e.1.source g ∙ f in
          let gone : remove_entry here (e ∷ es) ≡ e ∷ remove_entry here es = ap (λ b. cond b es (e ∷ remove_entry here es)) miss in
          let without : without_first g (shown (e ∷ es)) ≡ send_of e.1 ∷ without_first g (shown es) = ap (λ b. if b then shown es else send_of e.1 ∷ without_first g (shown es)) other in
          record {
            sent = rest.sent;
            found = ap (λ b. cond b (Some e.1) (lookup here es)) miss ∙ rest.found;
            first =
                ap (λ b. if b then Some (send_of e.1, shown es) else option_map (λ found. (found.0, send_of e.1 ∷ found.1)) (first_from g (shown es))) other
                ∙ ap (option_map (λ found. (found.0, send_of e.1 ∷ found.1))) rest.first
                ∙ ap (λ sends. Some (send_of rest.sent, sends)) (sym without);
            left = without ∙ ap (λ sends. send_of e.1 ∷ sends) rest.left ∙ ap shown (sym gone);
            numbers = λ h. skipped h (is_grain e.1.source h) refl (rest.numbers h) ∙ ap (λ es. only_at g (n ∷ []) h ++ numbers_of h es) (sym gone);
            rise = subst (Rises low next) (sym gone) (rise.0, rest.rise);
          }
        where
          skipped : (h : Grain) (b : Bool) → is_grain e.1.source h ≡ b → numbers_of h es ≡ only_at g (n ∷ []) h ++ numbers_of h (remove_entry here es) → numbers_of h (e ∷ es) ≡ only_at g (n ∷ []) h ++ numbers_of h (e ∷ remove_entry here es)
          skipped h true t rest =
              let none : only_at g (n ∷ []) h ≡ [] = ap (λ b. if b then n ∷ [] else []) (other_grain e.1.source h f t) in
              let same = rest ∙ ap (λ ns. ns ++ numbers_of h (remove_entry here es)) none in
              ap (λ b. if b then e.0 ∷ numbers_of h es else numbers_of h es) t ∙ ap (λ ns. e.0 ∷ ns) same
              ∙ sym (ap (λ b. if b then e.0 ∷ numbers_of h (remove_entry here es) else numbers_of h (remove_entry here es)) t)
              ∙ ap (λ ns. ns ++ numbers_of h (e ∷ remove_entry here es)) (sym none)
          skipped h false u rest =
              ap (λ b. if b then e.0 ∷ numbers_of h es else numbers_of h es) u ∙ rest
              ∙ ap (λ ns. only_at g (n ∷ []) h ++ ns) (sym (ap (λ b. if b then e.0 ∷ numbers_of h (remove_entry here es) else numbers_of h (remove_entry here es)) u))

-- ---- the index after each change

module _ (es : List (ℕ × Sent)) (index : Index) (next : ℕ) (indexed : IsIndexed es index next) (new : Index) where
  pub same_indexed : IsSameIndex index new → IsIndexed es new next
  same_indexed same = record { numbers = λ g. same g ∙ indexed.numbers g; rise = indexed.rise }

  pub last_indexed : (s : Sent) → AddsLast index s.source next new → IsIndexed (es ++ (next, s) ∷ []) new (next + 1)
  last_indexed s adds = record {
    numbers = λ g. adds g ∙ ap (λ ns. ns ++ only_at s.source (next ∷ []) g) (indexed.numbers g) ∙ sym (numbers_last g es next s);
    rise = rise_last 0 next es s indexed.rise;
  }

  pub last_out : (left : List (ℕ × Sent)) (e : ℕ × Sent) (r : Option ℕ) → es ≡ left ++ e ∷ [] → TakesLast index e.1.source r new → IfNone r (numbers_at index e.1.source ≡ []) → IsIndexed left new next
  last_out left e r last takes none = record {
    numbers = last_gone index new e.1.source r e.0 (λ g. numbers_of g left) takes none (λ g. indexed.numbers g ∙ ap (numbers_of g) last ∙ numbers_last g left e.0 e.1);
    rise = rise_without_last 0 next left e (subst (Rises 0 next) last indexed.rise);
  }

  module _ (g : Grain) (n : ℕ) (takes : TakesFirst index g (Some n) new) where
    pub first_out : IsFirst g 0 next es n (numbers_at new g)
    first_out = first_is g 0 next es n (numbers_at new g) indexed.rise (sym (indexed.numbers g) ∙ takes g ∙ ap (λ ns. ns ++ numbers_at new g) (only_own g (n ∷ [])))

    pub rest_indexed : IsIndexed (remove_entry (λ k. is_eq (nat_cmp n k)) es) new next
    rest_indexed = record {
      numbers = λ h. append_cancel_left (only_at g (n ∷ []) h) _ _ (sym (takes h) ∙ indexed.numbers h ∙ first_out.numbers h);
      rise = first_out.rise;
    }

-- ---- what the index says of the first

none_at_front : (ns : List ℕ) → slice_get ns 0 ≡ None → ns ≡ []
none_at_front [] is = refl
none_at_front (n ∷ ns) is = absurd cc

one_at_front : (ns : List ℕ) (n : ℕ) → slice_get ns 0 ≡ Some n → (rest : List ℕ) × (ns ≡ n ∷ rest)
one_at_front [] n is = absurd cc
one_at_front (m ∷ ns) n is = let same : m ≡ n = cc in (ns, ap (λ k. k ∷ ns) same)

finds : (g : Grain) (sends : List Send) (r : Option (Bor Sent)) (s : Sent) → option_copied r ≡ Some s → first_from g sends ≡ Some (send_of s, without_first g sends) → FindsFirst g sends r
finds g sends None s is first = absurd cc
finds g sends (Some b) s is first = let same : b.now ≡ s = cc in first ∙ ap (λ x. Some (send_of x, without_first g sends)) (sym same)

module _ (es : List (ℕ × Sent)) (index : Index) (next : ℕ) (indexed : IsIndexed es index next) (g : Grain) where
  pub finds_none : slice_get (numbers_at index g) 0 ≡ None → first_from g (shown es) ≡ None
  finds_none is = (first_none g es (sym (indexed.numbers g) ∙ none_at_front (numbers_at index g) is)).0

  pub finds_first : (n : ℕ) (r : Option (Bor Sent)) → slice_get (numbers_at index g) 0 ≡ Some n → option_copied r ≡ lookup (λ k. is_eq (nat_cmp n k)) es → FindsFirst g (shown es) r
  finds_first n r is found =
      let front = one_at_front (numbers_at index g) n is in
      let one = first_is g 0 next es n front.0 indexed.rise (sym (indexed.numbers g) ∙ front.1) in
      finds g (shown es) r one.sent (found ∙ one.found) one.first
