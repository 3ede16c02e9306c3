-- What waits at a grain stands in the order in which it was accepted, and what is open was accepted before it.
use Rattle.silo_model.proofs.Common.{if◌then◌else◌, ◌++◌, ◌+◌, ◌<◌, ◌∙◌, ◌∷◌, ◌≡◌, ◌≤◌, Change, Context, Effect, Entry, Grain, List, Logic}
use Rattle.silo_model.proofs.Common.{Machine, None, Option, Request, Setup, Some, Step, [], ap, applied, arith, change_option, context_at}
use Rattle.silo_model.proofs.Common.{eq_by_cmp, grain_cmp, grain_cmp_exact, grain_cmp_total, grain_of, kind_age, machine_step, nat_cmp}
use Rattle.silo_model.proofs.Common.{nat_cmp_total, none-some, refl, restricted_to, same_Some, shown_to, start_of, subst, sym, with_request}
use Rattle.silo_model.proofs.Common.{ℕ}
use Rattle.std.specs.FinMap as map
use Rattle.silo_model.specs.Order.{AllBehind, Ascend, BeginInOrder}
use Rattle.silo_model.proofs.Changes.{OfPutAt, changed_all}
use Rattle.silo_model.proofs.EffectKinds.{Does, IsLeft, Role, accepts, closes, goes, goes_on, opens, role_of, stays, tells}
use Rattle.silo_model.proofs.Moves.{count-with_sends, count_of, remains_count}
use Rattle.silo_model.proofs.Journals.{all_keep, parts_lead}
use Rattle.silo_model.proofs.MachineSteps.{by_machine_step}
use Rattle.silo_model.proofs.Tests.{on_test}
use Rattle.silo_model.proofs.QuietCounts.{shown_entry}
use Rattle.silo_model.proofs.SharedSteps.{get-kept_there}
use Rattle.silo_model.proofs.TurnMaps.{Turns, get-remove_open}
use Rattle.silo_model.specs.Opening.{KeptGrain, awake}
use Rattle.silo_model.proofs.Opening.{woken_of}

-- ---- requests up to a number

-- each was among the first that were accepted, so many of them
abbrev pub AllUpTo : ℕ → List Request → Type 0
AllUpTo count [] = Unit {0}
AllUpTo count (q ∷ queue) = (q.number ≤ count) × AllUpTo count queue

all_up : (count after : ℕ) (queue : List Request) → count ≤ after → AllUpTo count queue → AllUpTo after queue
all_up count after [] grown all = tt
all_up count after (q ∷ queue) grown all = (omega (arith, grown, all.0), all_up count after queue grown all.1)

up_push : (count : ℕ) (queue : List Request) (q : Request) → AllUpTo count queue → q.number ≤ count → AllUpTo count (queue ++ q ∷ [])
up_push count [] q all new = (new, tt)
up_push count (first ∷ queue) q all new = (all.0, up_push count queue q all.1 new)

behind_push : (n : ℕ) (queue : List Request) (q : Request) → AllBehind n queue → n < q.number → AllBehind n (queue ++ q ∷ [])
behind_push n [] q all new = (new, tt)
behind_push n (first ∷ queue) q all new = (all.0, behind_push n queue q all.1 new)

-- what is accepted last stands last
ascend_push : (count : ℕ) (queue : List Request) (q : Request)
    → Ascend queue → AllUpTo count queue → count < q.number → Ascend (queue ++ q ∷ [])
ascend_push count [] q all up new = (tt, tt)
ascend_push count (first ∷ queue) q all up new =
    (behind_push first.number queue q all.0 (omega (arith, up.0, new)), ascend_push count queue q all.1 up.1 new)

-- ---- an entry

-- an entry in order, of whose tenant so many requests were accepted
pub record IsOrdered (count : ℕ) (e : Entry) : Type 0 where
  pub queue : Ascend e.queue
  pub counted : AllUpTo count e.queue
  pub turns : (n : ℕ) (turn : Request) → map.get e.turns n ≡ Some turn → (turn.number ≤ count) × AllBehind turn.number e.queue

grown : (count after : ℕ) (e : Entry) → count ≤ after → IsOrdered count e → IsOrdered after e
grown count after e more is = record {
  queue = is.queue;
  counted = all_up count after e.queue more is.counted;
  turns = λ n turn found. let law = is.turns n turn found in (omega (arith, more, law.0), law.1);
}

-- one that is asked for the first time, or once more
asked : (clock count : ℕ) (q : Request) (found : Option Entry) → q.number ≡ count + 1
    → ((e : Entry) → found ≡ Some e → IsOrdered count e) → IsOrdered (count + 1) (with_request clock q found)
asked clock count q None next old =
    record {
      queue = (tt, tt);
      counted = (omega (arith, next), tt);
      turns = λ n turn found. absurd (none-some turn (sym (map.get-empty nat_cmp n) ∙ found));
    }
asked clock count q (Some e) next old =
    let is = old e refl in
    let new : count < q.number = omega (arith, next) in
    record {
      queue = ascend_push count e.queue q is.queue is.counted new;
      counted = up_push (count + 1) e.queue q (all_up count (count + 1) e.queue (omega arith) is.counted) (omega (arith, next));
      turns = λ n turn found.
          let law = is.turns n turn found in
          (omega (arith, law.0), behind_push turn.number e.queue q law.1 (omega (arith, law.0, new)));
    }

-- the first that waits becomes an open turn
module _ (count : ℕ) (e : Entry) (first : Request) (others : List Request) (waits : e.queue ≡ first ∷ others) (is : IsOrdered count e) where
  abbrev Rest : Request → Type 0
  Rest turn = (turn.number ≤ count) × AllBehind turn.number others

  front : AllBehind first.number others × Ascend others
  front = subst Ascend waits is.queue

  counts : (first.number ≤ count) × AllUpTo count others
  counts = subst (AllUpTo count) waits is.counted

  begun : IsOrdered count (record e { queue = others; turns = map.insert e.turns first.number first })
  begun = record {
    queue = front.1;
    counted = counts.1;
    turns = λ n turn found.
        on_test (λ same. (if same then Some first else map.get e.turns n) ≡ Some turn → Rest turn) (eq_by_cmp nat_cmp n first.number)
        (λ _ h. subst Rest (same_Some first turn h) (counts.0, front.0))
        (λ _ h. let law = is.turns n turn h in (law.0, (subst (AllBehind turn.number) waits law.1).1))
        (sym (map.get-insert nat_cmp_total e.turns first.number first n) ∙ found);
  }

-- ---- what a step does

-- Nothing that was accepted is forgotten, and the entry that is put is in order.
pub record Orders (s : Context) (grain : Option Grain) (e : Effect) : Type 0 where
  pub counts : count_of s.account ≤ count_of (change_option s.account e.account)
  pub left : OfPutAt (λ (g : Grain). IsOrdered (count_of (change_option s.account e.account))) grain e.entry

module _ (logic : Logic) (s : Context) (step : Step) (old : (x : Entry) → s.entry ≡ Some x → IsOrdered (count_of s.account) x) where
  by_left : (g : Grain) (e : Entry) (request : Request) (c : Change Entry) (after : ℕ)
      → IsOrdered (count_of s.account) e → after ≡ count_of s.account → IsLeft logic g e request c → OfPutAt (λ (g : Grain). IsOrdered after) (Some g) c
  by_left g e request _ after is same (stays new queue turns ready said) =
      grown (count_of s.account) after new (omega (arith, same))
      (record {
        queue = subst Ascend (sym queue) is.queue;
        counted = subst (AllUpTo (count_of s.account)) (sym queue) is.counted;
        turns = λ n turn found.
            let law = is.turns n turn (get-remove_open e.turns request.number n turn (sym (ap (λ (t : Turns). map.get t n) turns) ∙ found)) in
            (law.0, subst (AllBehind turn.number) (sym queue) law.1);
      })
  by_left g e request _ after is same (goes none stores) = tt

  by_kind : (role : Role) (grain : Option Grain) (e : Effect) → Does logic s step role grain e → Orders s grain e
  by_kind _ _ _ (tells p grain left outcome remains) = record { counts = omega (arith, remains_count remains); left = tt }
  by_kind _ _ _ (accepts p g call left a own remains is) =
      let same : a.count ≡ count_of s.account = ap count_of (sym is) ∙ remains_count remains in
      record {
        counts = omega (arith, same);
        left = asked s.clock a.count _ s.entry refl (λ x found. subst (λ n. IsOrdered n x) (sym same) (old x found));
      }
  by_kind _ _ _ (goes_on g e phase until resting is unready entered) =
      let o = old e is in
      record { counts = omega arith; left = record { queue = o.queue; counted = o.counted; turns = o.turns } }
  by_kind _ _ _ (opens g e first others is ready waits may) = record { counts = omega arith; left = begun (count_of s.account) e first others waits (old e is) }
  by_kind _ _ _ (closes g turn e request left sends row outcome is open_turn is_left own touches) =
      let same = count-with_sends g s.account sends in
      record { counts = omega (arith, same); left = by_left g e request left _ (old e is) same is_left }
  by_kind _ _ _ _ = record { counts = omega arith; left = tt }

-- ---- the machine

abbrev pub IsOrderedMachine : Machine → Type 0
IsOrderedMachine m = (g : Grain) (e : Entry) → map.get m.entries g ≡ Some e → IsOrdered (count_of m.account) e

module _ (logic : Logic) (m : Machine) (s : Step) (ordered : IsOrderedMachine m) where
  abbrev place : Option Grain
  place = grain_of m.account s

  sees : (grain : Option Grain) (x : Entry) → (context_at m grain).entry ≡ Some x → IsOrdered (count_of m.account) x
  unfolding context_at
  sees None x found = absurd (none-some x found)
  sees (Some g) x found = ordered g x found

  done_at : (e : Effect) → Orders (context_at m place) place e → IsOrderedMachine (applied m place e)
  unfolding context_at applied
  done_at e orders =
      changed_all grain_cmp_total grain_cmp_exact (λ (g : Grain). IsOrdered (count_of (change_option m.account e.account)))
      m.entries place e.entry
      (λ g x found. grown _ _ x orders.counts (ordered g x found)) orders.left

stays_ordered : (logic : Logic) (m new : Machine) (s : Step) → IsOrderedMachine m → machine_step logic m s ≡ Some new → IsOrderedMachine new
unfolding context_at
stays_ordered logic m new s ordered =
    by_machine_step logic m new (λ _. IsOrderedMachine) (λ now. ordered)
    (λ g e found. ordered g e (get-kept_there m.clock (kind_age m.ages m.age) m.entries g e found)) s
    (λ e does.
    let place = grain_of m.account s in
    done_at logic m s ordered e (by_kind logic (context_at m place) s (sees logic m s ordered place) (role_of s) place e does))

awake_ordered : (n : ℕ) (k : KeptGrain) → IsOrdered n (awake k)
awake_ordered n k = record { queue = tt; counted = tt; turns = λ m turn found. absurd (none-some turn (sym (map.get-empty nat_cmp m) ∙ found)) }

starts_ordered : (setup : Setup) (tenant : List ℕ) → IsOrderedMachine (start_of setup tenant)
unfolding start_of
starts_ordered setup tenant g e found =
    let k = woken_of setup tenant g e found in
    subst (IsOrdered (count_of (start_of setup tenant).account)) k.1 (awake_ordered (count_of (start_of setup tenant).account) k.0)

pub begin_in_order : BeginInOrder
begin_in_order logic setup journal w g e leads found =
    let ordered =
    all_keep (machine_step logic) IsOrderedMachine (stays_ordered logic) (start_of setup g.tenant) (shown_to g.tenant w)
    (restricted_to g.tenant journal) (starts_ordered setup g.tenant) (parts_lead logic setup journal w g.tenant leads) in
    let is = ordered g e (shown_entry w g e found) in
    record { queue = is.queue; turns = λ n turn at. (is.turns n turn at).1 }
