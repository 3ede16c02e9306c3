-- Along every run a machine stays fair, and each request is answered once, or waits, or is open.
use Rattle.silo_model.proofs.Common.{◌+◌, ◌∙◌, ◌∷◌, ◌≡◌, ◌≤◌, AllByRecursion, Bool, Call, Client, Deliver, Entry, List, Logic, Machine}
use Rattle.silo_model.proofs.Common.{None, Party, Poke, ReadersAskNothing, Refuse, Request, Setup, Status, Step, Sweep, [], all_pending, ap}
use Rattle.silo_model.proofs.Common.{arith, asking_of, at, effect_of, eq-eqb, eqb-true, false, false_from_ne_true, grain_cmp, machine_run}
use Rattle.silo_model.proofs.Common.{machine_step, map_list, nat_eq, none-some, pending_at, refl, restricted_to, start_of, subst, sum_alike}
use Rattle.silo_model.proofs.Common.{sum_by, sum_by-append, sum_by-cons, sum_flat, sym, total-none, true, unwrap_or, ℕ}
use Rattle.std.specs.List.{IsDistinct}
use Rattle.std.specs.FinMap as map
use Rattle.std.proofs.lemmas.Map.Keys.{IsDistinct-cons}
use Rattle.finite_maps.proofs.Sums.{sum_map}
use Rattle.silo_event.specs.declared.reply.Party.TheVariants as party
use Rattle.silo_model.specs.Settled.{RunsSettle, Settled, asks, is_client_with}
use Rattle.silo_model.specs.Opening.{awake}
use Rattle.silo_model.proofs.Opening.{replay_is_run, woken_of}
use Rattle.silo_model.proofs.Common.{grain_cmp_total, nat_cmp}
use Rattle.finite_maps.proofs.Totals.{total_alike}
use Rattle.finite_maps.proofs.Sums.{sum_zero}
use Rattle.silo_model.proofs.Runs.{machine_after}
use Rattle.silo_model.proofs.Tests.{on_found}
use Rattle.silo_model.proofs.Fair.{IsFairEntry, held, idle_entry, no_turns, numbered, one_if, pend}
use Rattle.silo_model.proofs.Moves.{Quiet, asked_by, replied, sent}
use Rattle.silo_model.proofs.StepMoves.{IsFairMachine, machine_moves}

-- ---- the start

-- nothing waits and nothing is open
none_held : (setup : Setup) (t : List ℕ) (f : Request → ℕ) → pend f (start_of setup t).entries ≡ 0
none_held setup t f = total_alike grain_cmp_total (held f) (λ _. 0) (start_of setup t).entries (λ g e found. let k = woken_of setup t g e found in subst (λ x. held f x ≡ 0) k.1 (ap (λ n. 0 + n) (no_turns f))) ∙ sum_zero (map.values (start_of setup t).entries)

pub start_fair : (logic : Logic) (setup : Setup) (t : List ℕ) → IsFairMachine logic (start_of setup t)
unfolding start_of
start_fair logic setup t = record {
  each = λ g e found. let k = woken_of setup t g e found in subst (IsFairEntry logic g) k.1 (idle_entry logic g (awake k.0) (map.len-empty nat_cmp Request));
  once = λ n. omega (arith, none_held setup t (numbered n));
  unused = λ n above. none_held setup t (numbered n);
}

pub start_balance : (setup : Setup) (t : List ℕ) (w : Party → ℕ) → replied w (start_of setup t).replies + pend (sent w) (start_of setup t).entries ≡ 0
unfolding start_of
start_balance setup t w = omega (arith, none_held setup t (sent w))

-- ---- runs

-- what clients ask is always possible
pub asks_always : (logic : Logic) (m : Machine) (s : Step) → machine_step logic m s ≡ None → asking_of s ≡ None
unfolding machine_step effect_of
asks_always logic m (Refuse caller id code) e = absurd (none-some _ (sym e))
asks_always logic m (Call caller id grain message) e = absurd (none-some _ (sym e))
asks_always logic m (Poke failed caller id grain state) e = absurd (none-some _ (sym e))
asks_always logic m (Status caller id) e = absurd (none-some _ (sym e))
asks_always logic m _ e = refl

-- what is asked weighs as its client does
asked_client : (w : Party → ℕ) → Quiet w → (s : Step) → asked_by w s ≡ at (λ asking. w (party.Client asking.0 asking.1)) (asking_of s)
asked_client w quiet (Deliver grain) = quiet grain
asked_client w quiet _ = refl

module _ (logic : Logic) (law : ReadersAskNothing logic) where
  after_fair : (m : Machine) (s : Step) → IsFairMachine logic m → IsFairMachine logic (machine_after logic m s)
  after_fair m s fair =
      on_found (λ r. IsFairMachine logic (unwrap_or r m)) (machine_step logic m s) (λ _. fair)
      (λ new is. (machine_moves logic law m new s fair is).fair)

  after_balance : (w : Party → ℕ) → Quiet w → (m : Machine) (s : Step) → IsFairMachine logic m
      → replied w (machine_after logic m s).replies + pend (sent w) (machine_after logic m s).entries
      ≡ replied w m.replies + pend (sent w) m.entries + asked_by w s
  after_balance w quiet m s fair =
      let before = replied w m.replies + pend (sent w) m.entries in
      on_found (λ r. replied w (unwrap_or r m).replies + pend (sent w) (unwrap_or r m).entries ≡ before + asked_by w s) (machine_step logic m s)
      (λ is. omega (arith, asked_client w quiet s, ap (at (λ asking. w (party.Client asking.0 asking.1))) (asks_always logic m s is)))
      (λ new is. (machine_moves logic law m new s fair is).balance w quiet)

  pub run_fair : (m : Machine) (steps : List Step) → IsFairMachine logic m → IsFairMachine logic (machine_run logic m steps)
  run_fair m [] fair = fair
  run_fair m (s ∷ steps) fair = run_fair (machine_after logic m s) steps (after_fair m s fair)

  pub run_balance : (w : Party → ℕ) → Quiet w → (m : Machine) (steps : List Step) → IsFairMachine logic m
      → replied w (machine_run logic m steps).replies + pend (sent w) (machine_run logic m steps).entries ≡ replied w m.replies + pend (sent w) m.entries + sum_by (asked_by w) steps
  run_balance w quiet m [] fair = omega arith
  run_balance w quiet m (s ∷ steps) fair =
      omega (
        arith,
        run_balance w quiet (machine_after logic m s) steps (after_fair m s fair),
        after_balance w quiet m s fair,
        sum_by-cons (asked_by w) s steps,
      )

-- ---- in the words of the definition

abbrev weigh_client : Client → ℕ → Party → ℕ
weigh_client client id p = one_if (is_client_with client id p)

asked_as : (client : Client) (id : ℕ) (s : Step) → asked_by (weigh_client client id) s ≡ one_if (asks client id s)
asked_as client id Sweep = refl
asked_as client id _ = refl

-- the weight of all that waits or is open
pub pending_weight : (f : Request → ℕ) (m : Machine) → sum_by f (all_pending m) ≡ pend f m.entries
pending_weight f m = sum_flat f pending_at (map.values m.entries) ∙ sum_alike (λ e. sum_by f (pending_at e)) (held f) (map.values m.entries) (λ e. sum_by-append f e.queue (map.values e.turns))

-- no number that is in the list weighs in it
uncounted : (x : ℕ) (xs : List ℕ) → sum_by (λ y. one_if (nat_eq y x)) xs ≡ 0 → AllByRecursion (λ y. nat_eq x y ≡ false) xs
uncounted x [] e = tt
uncounted x (y ∷ ys) e = (
  false_from_ne_true (nat_eq x y) (λ same. heavy (nat_eq y x) (eq-eqb y x (sym (eqb-true x y same))) (sym (sum_by-cons (λ z. one_if (nat_eq z x)) y ys) ∙ e)),
  uncounted x ys (omega (arith, e, sum_by-cons (λ z. one_if (nat_eq z x)) y ys)),
)
  where
    heavy : (b : Bool) → b ≡ true → one_if b + sum_by (λ z. one_if (nat_eq z x)) ys ≡ 0 → ⊥
    heavy true is none = omega arith
    heavy false is none = absurd cc

distinct : (xs : List ℕ) → ((n : ℕ) → sum_by (λ y. one_if (nat_eq y n)) xs ≤ 1) → IsDistinct nat_eq xs
unfolding IsDistinct
distinct [] once = tt
distinct (x ∷ xs) once =
    IsDistinct-cons nat_eq x xs
    (uncounted x xs (omega (arith, once x, sum_by-cons (λ y. one_if (nat_eq y x)) x xs, ap one_if (eq-eqb x x refl))))
    (distinct xs (λ n. omega (arith, once n, sum_by-cons (λ y. one_if (nat_eq y n)) x xs)))

machine_settles : (logic : Logic) → ReadersAskNothing logic → (setup : Setup) (t : List ℕ) (steps : List Step) → Settled steps (machine_run logic (start_of setup t) steps)
machine_settles logic law setup t steps =
    let start : Machine = start_of setup t in
    let after : Machine = machine_run logic start steps in
    record {
      answered = λ client id.
          let w : Party → ℕ = weigh_client client id in
          let balance : replied w after.replies + pend (sent w) after.entries ≡ sum_by (asked_by w) steps = omega (arith, run_balance logic law w (λ g. refl) start steps (start_fair logic setup t), start_balance setup t w) in
          sym (sum_alike (asked_by w) (λ s. one_if (asks client id s)) steps (asked_as client id))
          ∙ sym balance
          ∙ ap (λ n. replied w after.replies + n) (sym (pending_weight (sent w) after));
      numbers = distinct (map_list (λ (q : Request). q.number) (all_pending after))
          (λ n. omega (arith, (run_fair logic law start steps (start_fair logic setup t)).once n, sum_map (λ y. one_if (nat_eq y n)) (λ (q : Request). q.number) (all_pending after), pending_weight (numbered n) after));
    }

pub runs_settle : RunsSettle
runs_settle logic law setup t steps = subst (Settled (restricted_to t steps)) (sym (replay_is_run logic setup t steps)) (machine_settles logic law setup t (restricted_to t steps))
