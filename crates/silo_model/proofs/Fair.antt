-- What a machine's entries keep along every run: no number stands twice, a turn is open under its number and only where the entry is ready, and a turn that may write is alone.
use Rattle.silo_model.proofs.Common.{if◌then◌else◌, ◌+◌, ◌<◌, ◌==◌, ◌∙◌, ◌∷◌, ◌≡◌, ◌≢◌, ◌≤◌, Bool, Entries, Entry, Equal-is, Grain, List}
use Rattle.silo_model.proofs.Common.{Logic, None, Option, Request, Some, ap, arith, at, cond, entries-none, eq-eqb, eq_by_cmp, eqb-true}
use Rattle.silo_model.proofs.Common.{false, found_passes, get-none, grain_cmp_exact, grain_cmp_total, is_ready, list_all, map_list}
use Rattle.silo_model.proofs.Common.{may_open, nat_cmp, nat_cmp-IsAntisymmetric, nat_cmp_total, nat_eq, none-some, reads, refl, same_Some}
use Rattle.silo_model.proofs.Common.{sum_by, sum_by-cons, sym, total, total-none, total-remove, true, true≢false, ℕ}
use Rattle.std.specs.FinMap as map
use Rattle.finite_maps.proofs.Totals.{total-insert, total-len}
use Rattle.finite_maps.proofs.Options.{some_if_fails}
use Rattle.silo_model.proofs.TurnMaps.{Turns}
use Rattle.silo_model.proofs.Tests.{either_way, on_test}

-- the weight of an entry's requests, and of all requests that wait or are open
abbrev pub held : (Request → ℕ) → Entry → ℕ
held f e = sum_by f e.queue + total f e.turns

abbrev pub pend : (Request → ℕ) → Entries → ℕ
pend f entries = total (held f) entries

abbrev pub one_if : Bool → ℕ
one_if b = cond b 1 0

abbrev pub numbered : ℕ → Request → ℕ
numbered n q = one_if (nat_eq q.number n)

pub record IsFairEntry (logic : Logic) (g : Grain) (e : Entry) : Type 0 where
  pub keyed : (n : ℕ) (q : Request) → map.get e.turns n ≡ Some q → q.number ≡ n
  pub at_rest : is_ready e.phase ≡ false → map.len e.turns ≡ 0
  pub alone : (n : ℕ) (q : Request) → map.get e.turns n ≡ Some q → reads logic g q ≡ false → map.len e.turns ≡ 1

pub record IsFair (logic : Logic) (count : ℕ) (entries : Entries) : Type 0 where
  pub each : (g : Grain) (e : Entry) → map.get entries g ≡ Some e → IsFairEntry logic g e
  -- a number stands at most once, and none above the count
  pub once : (n : ℕ) → pend (numbered n) entries ≤ 1
  pub unused : (n : ℕ) → count < n → pend (numbered n) entries ≡ 0

-- ---- maps of turns

pub same_number : (k n : ℕ) → eq_by_cmp nat_cmp k n ≡ true → k ≡ n
same_number k n tied = nat_cmp-IsAntisymmetric k n ((Equal-is (nat_cmp k n)).0 tied)

-- a turn less
pub one_less : (f : Request → ℕ) (t : Turns) (n : ℕ) (q : Request) → map.get t n ≡ Some q → total f (map.remove t n) + f q ≡ total f t
one_less f t n q found = ap (λ o. total f (map.remove t n) + at f o) (sym found) ∙ total-remove nat_cmp_total nat_cmp-IsAntisymmetric f t n

pub one_more : (f : Request → ℕ) (t : Turns) (n : ℕ) (q : Request) → map.get t n ≡ None → total f (map.insert t n q) ≡ total f t + f q
one_more f t n q none = omega (arith, total-insert nat_cmp_total f t n q, ap (at f) none)

len_less : (t : Turns) (n : ℕ) (q : Request) → map.get t n ≡ Some q → map.len (map.remove t n) + 1 ≡ map.len t
len_less t n q found = ap (λ l. l + 1) (sym (total-len (map.remove t n))) ∙ one_less (λ x. 1) t n q found ∙ total-len t

len_more : (t : Turns) (n : ℕ) (q : Request) → map.get t n ≡ None → map.len (map.insert t n q) ≡ map.len t + 1
len_more t n q none = sym (total-len (map.insert t n q)) ∙ one_more (λ x. 1) t n q none ∙ ap (λ l. l + 1) (total-len t)

-- no turn is left without the only one
pub none_left : (t : Turns) (n : ℕ) (q : Request) → map.get t n ≡ Some q → map.len t ≡ 1 → map.len (map.remove t n) ≡ 0
none_left t n q found one = omega (arith, len_less t n q found)

pub no_turns : (f : Request → ℕ) → total f (map.empty {X = Request} {R = nat_cmp}) ≡ 0
no_turns f = total-none f map.empty (map.len-empty nat_cmp Request)

-- another turn than the one that was closed is still open
pub still_open : (t : Turns) (k n : ℕ) (q : Request) → n ≢ k → map.get t n ≡ Some q → map.get (map.remove t k) n ≡ Some q
still_open t k n q apart found =
    map.get-remove nat_cmp_total t k n
    ∙ on_test (λ b. cond b None (map.get t n) ≡ Some q) (eq_by_cmp nat_cmp n k) (λ tied. absurd (apart (same_number n k tied))) (λ _. found)

-- ---- entries

-- an entry with no open turn
pub idle_entry : (logic : Logic) (g : Grain) (e : Entry) → map.len e.turns ≡ 0 → IsFairEntry logic g e
idle_entry logic g e none = record {
  keyed = λ n q found. absurd (none-some q (sym (get-none e.turns n none) ∙ found));
  at_rest = λ _. none;
  alone = λ n q found writes. absurd (none-some q (sym (get-none e.turns n none) ∙ found));
}

-- an entry with all turns of another but one, in a phase in which none is left where it isn't ready
pub closed_entry : (logic : Logic) (g : Grain) (e new : Entry) (n : ℕ) (q : Request) → IsFairEntry logic g e → map.get e.turns n ≡ Some q → new.turns ≡ map.remove e.turns n
    → (is_ready new.phase ≡ false → map.len (map.remove e.turns n) ≡ 0) → IsFairEntry logic g new
closed_entry logic g e new n q fair found less rest = record {
  keyed = λ k x left. fair.keyed k x (was k x left).1;
  at_rest = λ isnt. as_many ∙ rest isnt;
  alone = λ k x left writes.
      let none = none_left e.turns n q found (fair.alone k x (was k x left).1 writes) in
      absurd (none-some x (sym (get-none new.turns k (as_many ∙ none)) ∙ left));
}
  where
    as_many : map.len new.turns ≡ map.len (map.remove e.turns n)
    as_many = ap (λ (t : Turns). map.len t) less

    was : (k : ℕ) (x : Request) → map.get new.turns k ≡ Some x → (eq_by_cmp nat_cmp k n ≡ false) × (map.get e.turns k ≡ Some x)
    was k x left =
        some_if_fails (eq_by_cmp nat_cmp k n) (map.get e.turns k) x
        (sym (ap (λ (t : Turns). map.get t k) less ∙ map.get-remove nat_cmp_total e.turns n k) ∙ left)

where_writes : (b : Bool) (x y : Bool) → (if b then x else y) ≡ true → b ≡ false → y ≡ true
where_writes true x y e is = absurd (true≢false is)
where_writes false x y e is = e

where_reads : (b : Bool) (x y : Bool) → (if b then x else y) ≡ true → b ≡ true → x ≡ true
where_reads true x y e is = e
where_reads false x y e is = absurd (true≢false (sym is))

-- where no turn is open, any request may be
pub may_open_alone : (logic : Logic) (g : Grain) (e : Entry) (first : Request) → map.len e.turns ≡ 0 → may_open logic g e first ≡ true
may_open_alone logic g e first none =
    on_test (λ b. (if b then list_all (reads logic g) (map.values e.turns) else map.len e.turns == 0) ≡ true) (reads logic g first)
    (λ _. ap (λ es. list_all (reads logic g) (map_list (λ d. d.1) es)) (entries-none e.turns none)) (λ _. ap (λ n. n == 0) none)

module _ (logic : Logic) (g : Grain) (e : Entry) (first : Request) (may : may_open logic g e first ≡ true) where
  none_open : reads logic g first ≡ false → map.len e.turns ≡ 0
  none_open writes = eqb-true (map.len e.turns) 0 (where_writes (reads logic g first) _ _ may writes)

  -- the request may be open with each turn that is
  pub may_with : (n : ℕ) (q : Request) → map.get e.turns n ≡ Some q → (reads logic g first ≡ true) × (reads logic g q ≡ true)
  may_with n q found =
      either_way (reads logic g first)
      (λ is. (is, found_passes (reads logic g) e.turns n q found (where_reads (reads logic g first) _ _ may is)))
      (λ is. absurd (none-some q (sym (get-none e.turns n (none_open is)) ∙ found)))

  -- the first that waits becomes a turn
  pub opened_entry : (others : List Request) → IsFairEntry logic g e → is_ready e.phase ≡ true → map.get e.turns first.number ≡ None → IsFairEntry logic g (record e { queue = others; turns = map.insert e.turns first.number first })
  opened_entry others fair is_open new = record {
    keyed = λ k x found. key k x (eq_by_cmp nat_cmp k first.number) (same_number k first.number) (was k x found);
    at_rest = λ isnt. absurd (true≢false (sym is_open ∙ isnt));
    alone = λ k x found writes. lonely k x (eq_by_cmp nat_cmp k first.number) (was k x found) writes;
  }
    where
      was : (k : ℕ) (x : Request) → map.get (map.insert e.turns first.number first) k ≡ Some x → cond (eq_by_cmp nat_cmp k first.number) (Some first) (map.get e.turns k) ≡ Some x
      was k x found = sym (map.get-insert nat_cmp_total e.turns first.number first k) ∙ found

      key : (k : ℕ) (x : Request) (b : Bool) → (b ≡ true → k ≡ first.number) → cond b (Some first) (map.get e.turns k) ≡ Some x → x.number ≡ k
      key k x true is found = ap (λ (y : Request). y.number) (sym (same_Some first x found)) ∙ sym (is refl)
      key k x false is found = fair.keyed k x found

      lonely : (k : ℕ) (x : Request) (b : Bool) → cond b (Some first) (map.get e.turns k) ≡ Some x → reads logic g x ≡ false → map.len (map.insert e.turns first.number first) ≡ 1
      lonely k x true found writes = len_more e.turns first.number first new ∙ ap (λ l. l + 1) (none_open (ap (reads logic g) (same_Some first x found) ∙ writes))
      lonely k x false found writes = absurd (true≢false (sym (may_with k x found).1 ∙ writes))

-- ---- numbers

-- the number of the first that waits is no turn's
abbrev pub FrontIsNew : Entry → Type 0
FrontIsNew e = (first : Request) (others : List Request) → e.queue ≡ first ∷ others → map.get e.turns first.number ≡ None

pub within_all : (f : Request → ℕ) (entries : Entries) (g : Grain) (e : Entry) → map.get entries g ≡ Some e → held f e ≤ pend f entries
within_all f entries g e found = omega (arith, ap (λ o. pend f (map.remove entries g) + at (held f) o) (sym found) ∙ total-remove grain_cmp_total grain_cmp_exact (held f) entries g)

pub front_is_new : (logic : Logic) (count : ℕ) (entries : Entries) (g : Grain) (e : Entry) → IsFair logic count entries → map.get entries g ≡ Some e → FrontIsNew e
front_is_new logic count entries g e fair found first others is = by_found (map.get e.turns first.number) refl
  where
    in_queue : sum_by (numbered first.number) e.queue ≡ numbered first.number first + sum_by (numbered first.number) others
    in_queue = ap (sum_by (numbered first.number)) is ∙ sum_by-cons (numbered first.number) first others

    twice : (q : Request) → numbered first.number q ≡ 1 → total (numbered first.number) (map.remove e.turns first.number) + numbered first.number q ≡ total (numbered first.number) e.turns → ⊥
    twice q counts law = omega (arith, in_queue, ap one_if (eq-eqb first.number first.number refl), within_all (numbered first.number) entries g e found, fair.once first.number)

    by_found : (o : Option Request) → map.get e.turns first.number ≡ o → o ≡ None
    by_found None there = refl
    by_found (Some q) there = absurd (twice q (ap (λ b. cond b 1 0) (eq-eqb q.number first.number ((fair.each g e found).keyed first.number q there))) (one_less (numbered first.number) e.turns first.number q there))
