-- What each of the thirteen kinds of step does to the requests of its machine.
use Rattle.silo_model.proofs.Common.{◌++◌, ◌+◌, ◌<◌, ◌∙◌, ◌≡◌, ◌≤◌, ◌⊎◌, Change, Effect, Entries, Entry, Grain, List, Logic, Machine, None}
use Rattle.silo_model.proofs.Common.{Option, Party, ReadersAskNothing, Reply, Request, Some, Step, Sweep, [], and_parts, ap, append-nil}
use Rattle.silo_model.proofs.Common.{applied, arith, at, change_option, changed_at, context_at, drop, due_moment, eqb-true, false}
use Rattle.silo_model.proofs.Common.{grain_cmp_exact, grain_cmp_total, grain_of, inl, inr, is_idle, is_kept, keep, kept_entries, kind_age}
use Rattle.silo_model.proofs.Common.{machine_step, nat_eq, nat_le, none-some, put, refl, sum_by, sum_by-append, sym, total, total-none}
use Rattle.silo_model.proofs.Common.{total-remove, ℕ}
use Rattle.std.specs.FinMap as map
use Rattle.finite_maps.proofs.Totals.{total-insert, total-retain_keys}
use Rattle.silo_model.specs.Effect.{found_at}
use Rattle.silo_model.proofs.Changes.{OfPut, OfPutAt, changed_all}
use Rattle.silo_model.proofs.Tests.{on_test}
use Rattle.silo_model.proofs.Fair.{IsFair, IsFairEntry, front_is_new, held, numbered, one_if, pend}
use Rattle.silo_model.proofs.EffectKinds.{role_of}
use Rattle.silo_model.proofs.MachineSteps.{by_machine_step}
use Rattle.silo_model.proofs.Leaving.{idle_parts}
use Rattle.std.proofs.lemmas.Bool.{not-false}
use Rattle.silo_model.proofs.Moves.{Counted, IsFairAt, IsPlaced, Moves, NumbersMove, Quiet, SeesFair, asked_by, count_of, does_moves}
use Rattle.silo_model.proofs.Moves.{replied, sent}
use Rattle.silo_model.proofs.SharedSteps.{AgeOf, get-kept_there}

-- ---- all entries

-- the change at one grain changes the sum as it changes the weight there
total-changed : (f : Entry → ℕ) (entries : Entries) (grain : Option Grain) (c : Change Entry) → IsPlaced c grain → total f (changed_at entries grain c) + at f (found_at entries grain) ≡ total f entries + at f (change_option (found_at entries grain) c)
total-changed f entries None keep placed = refl
total-changed f entries None (put x) placed = absurd placed
total-changed f entries None drop placed = absurd placed
total-changed f entries (Some g) keep placed = refl
total-changed f entries (Some g) (put x) placed = total-insert grain_cmp_total f entries g x
total-changed f entries (Some g) drop placed = omega (arith, total-remove grain_cmp_total grain_cmp_exact f entries g)

fair_at : (logic : Logic) (grain : Option Grain) (c : Change Entry) → OfPut (IsFairAt logic grain) c → OfPutAt (IsFairEntry logic) grain c
fair_at logic grain keep left = tt
fair_at logic None (put x) left = tt
fair_at logic (Some g) (put x) left = left
fair_at logic grain drop left = tt

module _ (logic : Logic) (entries : Entries) (grain : Option Grain) (c : Change Entry) (count after : ℕ) (placed : IsPlaced c grain)
    (numbers : NumbersMove (found_at entries grain) (change_option (found_at entries grain) c) count after) (fair : IsFair logic count entries) where
  at_most : (f : Request → ℕ) → pend f (changed_at entries grain c) ≤ pend f entries + at f numbers.request
  at_most f = omega (arith, total-changed (held f) entries grain c placed, numbers.holds f)

  -- the request's number is the next, where there is one
  new_number : (n : ℕ) (o : Option Request) → Counted o count after → ((at (numbered n) o ≡ 0) ⊎ ((at (numbered n) o ≡ 1) × (count < n))) × (count ≤ after)
  new_number n None same = (inl refl, omega arith)
  new_number n (Some q) next = (
    on_test (λ b. (one_if b ≡ 0) ⊎ ((one_if b ≡ 1) × (count < n))) (nat_eq q.number n)
        (λ is. inr (refl, omega (arith, next, eqb-true q.number n is))) (λ _. inl refl),
    omega arith,
  )

  at_most_number : (n : ℕ) (o : Option Request) → Counted o count after → after < n → at (numbered n) o ≡ 0
  at_most_number n None same above = refl
  at_most_number n (Some q) next above =
      on_test (λ b. one_if b ≡ 0) (nat_eq q.number n) (λ is. absurd (omega (arith, next, above, eqb-true q.number n is))) (λ _. refl)

  changed_fair : OfPut (IsFairAt logic grain) c → IsFair logic after (changed_at entries grain c)
  changed_fair left = record {
    each = changed_all grain_cmp_total grain_cmp_exact (IsFairEntry logic) entries grain c fair.each (fair_at logic grain c left);
    once = λ n. at_once n (new_number n numbers.request numbers.counted).0;
    unused = λ n above.
        let law = new_number n numbers.request numbers.counted in
        omega (arith, at_most (numbered n), at_most_number n numbers.request numbers.counted above, fair.unused n (omega (arith, law.1)));
  }
    where
      at_once : (n : ℕ) → ((at (numbered n) numbers.request ≡ 0) ⊎ ((at (numbered n) numbers.request ≡ 1) × (count < n))) → pend (numbered n) (changed_at entries grain c) ≤ 1
      at_once n (inl none) = omega (arith, at_most (numbered n), fair.once n, none)
      at_once n (inr new) = omega (arith, at_most (numbered n), fair.unused n new.1, new.0)

-- ---- the machine

abbrev pub IsFairMachine : Logic → Machine → Type 0
IsFairMachine logic m = IsFair logic (count_of m.account) m.entries

-- a step that is done adds its replies at the end and leaves the machine fair, and what was asked is answered, or waits, or is open
pub record MachineMoves (logic : Logic) (m : Machine) (s : Step) (new : Machine) : Type 0 where
  pub added : List Reply
  pub replies : new.replies ≡ m.replies ++ added
  pub fair : IsFairMachine logic new
  pub balance : (w : Party → ℕ) → Quiet w → replied w new.replies + pend (sent w) new.entries ≡ replied w m.replies + pend (sent w) m.entries + asked_by w s

pub sees_fair : (logic : Logic) (m : Machine) (grain : Option Grain) → IsFairMachine logic m → SeesFair logic grain (context_at m grain).entry
unfolding context_at
sees_fair logic m None fair e found = absurd (none-some e found)
sees_fair logic m (Some g) fair e found = (fair.each g e found, front_is_new logic (count_of m.account) m.entries g e fair found)

applied_moves : (logic : Logic) (m : Machine) (s : Step) (grain : Option Grain) (e : Effect) → IsFairMachine logic m
    → Moves logic (role_of s) grain (context_at m grain) e → MachineMoves logic m s (applied m grain e)
unfolding context_at applied
applied_moves logic m s grain e fair moves = record {
  added = e.replies;
  replies = refl;
  fair = changed_fair logic m.entries grain e.entry (count_of m.account) (count_of (change_option m.account e.account)) moves.placed moves.numbers fair moves.left;
  balance = λ w quiet. omega (arith, sum_by-append (λ (r : Reply). w r.recipient) m.replies e.replies, total-changed (held (sent w)) m.entries grain e.entry moves.placed, moves.balance w quiet);
}

-- ---- steps of nobody

-- an entry that is due has no request
pub due_is_bare : (clock age : ℕ) (e : Entry) → is_kept clock age (Some e) ≡ false → (e.queue ≡ []) × (map.len e.turns ≡ 0)
due_is_bare clock age e due =
    let parts = idle_parts e (and_parts (is_idle e) (nat_le (due_moment age e) clock) (not-false _ due)).0 in
    (parts.1, parts.2)

due_is_light : (f : Request → ℕ) (clock age : ℕ) (e : Entry) → is_kept clock age (Some e) ≡ false → held f e ≡ 0
due_is_light f clock age e due = let bare = due_is_bare clock age e due in omega (arith, ap (sum_by f) bare.0, total-none f e.turns bare.1)

kept_weight : (f : Request → ℕ) (clock : ℕ) (age_of : AgeOf) (entries : Entries) → pend f (kept_entries clock age_of entries) ≡ pend f entries
unfolding kept_entries
kept_weight f clock age_of entries =
    total-retain_keys grain_cmp_total grain_cmp_exact (held f) entries (λ g. is_kept clock (age_of g.kind) (map.get entries g))
    (λ g e found dropped. due_is_light f clock (age_of g.kind) e (ap (is_kept clock (age_of g.kind)) (sym found) ∙ dropped))

sweep_moves : (logic : Logic) (m : Machine) (age_of : AgeOf) → IsFairMachine logic m
    → MachineMoves logic m Sweep (record m { entries = kept_entries m.clock age_of m.entries })
sweep_moves logic m age_of fair = record {
  added = [];
  replies = sym (append-nil m.replies);
  fair = record {
    each = λ g e found. fair.each g e (get-kept_there m.clock age_of m.entries g e found);
    once = λ n. omega (arith, kept_weight (numbered n) m.clock age_of m.entries, fair.once n);
    unused = λ n above. kept_weight (numbered n) m.clock age_of m.entries ∙ fair.unused n above;
  };
  balance = λ w quiet. omega (arith, kept_weight (sent w) m.clock age_of m.entries);
}

-- ---- every step

pub machine_moves : (logic : Logic) → ReadersAskNothing logic → (m new : Machine) (s : Step) → IsFairMachine logic m
    → machine_step logic m s ≡ Some new → MachineMoves logic m s new
machine_moves logic law m new s fair =
    by_machine_step logic m new (MachineMoves logic m)
    (λ now. record { added = []; replies = sym (append-nil m.replies); fair = fair; balance = λ w quiet. omega arith })
    (sweep_moves logic m (kind_age m.ages m.age) fair) s (λ e does.
    let place = grain_of m.account s in
    applied_moves logic m s place e fair (does_moves logic law (context_at m place) s (sees_fair logic m place fair) does))
