-- An entry that stays is left until its time has passed.
use Rattle.silo_model.proofs.Common.{◌+◌, ◌<◌, ◌∙◌, ◌∷◌, ◌≡◌, ◌≤◌, Abandon, Change, Context, Effect, End, Entry, Grain, List, Logic, None}
use Rattle.silo_model.proofs.Common.{Option, Request, Some, Step, Store, Whole, [], all_done, ap, arith, change_at, change_option}
use Rattle.silo_model.proofs.Common.{context_at, drop, due_moment, eq_by_cmp, eq_by_cmp-Decides, false, get-insert_same, grain_cmp}
use Rattle.silo_model.proofs.Common.{grain_cmp_exact, grain_cmp_total, grain_eq_decides, is_ready, keep, kind_age, list_any, none-some}
use Rattle.silo_model.proofs.Common.{or_parts, put, refl, resting_by, same_Some, shown_to, some_from_and_then, spread, subst, sym, true}
use Rattle.silo_model.proofs.Common.{true≢false, until_by, whole_step, whole_swept, with_request, ℕ}
use Rattle.std.specs.FinMap as map
use Rattle.grain_logic.specs.Logic.{stay}
use Rattle.silo_model.specs.Resting.{IsEnding, StayingGoes, StayingStays, StaysUntil, may_close}
use Rattle.silo_model.proofs.Changes.{WhereChanged, get-change_other, get-change_same}
use Rattle.silo_model.proofs.ClockSteps.{sweep_is}
use Rattle.silo_model.proofs.Contexts.{seen_own}
use Rattle.silo_model.proofs.EffectKinds.{Does, Role, accepts, closes, ends, goes_on, opens, owner_is, role_of, unloads}
use Rattle.silo_model.proofs.IdleEntries.{due_goes, used_stays}
use Rattle.silo_model.proofs.Isolation.{by_owner, did_does, place_in}
use Rattle.silo_model.proofs.Leaving.{awake_stays}
use Rattle.silo_model.proofs.Proper.{IsAt, does_placed}
use Rattle.silo_model.proofs.SameAges.{step_on}
use Rattle.silo_model.proofs.RestingEntries.{end_is, ended, entry_left}
use Rattle.silo_model.proofs.SharedSteps.{after_shared}
use Rattle.silo_model.proofs.Tests.{either_way}

-- ---- an entry that is ready and stays

pub record Stays (moment : ℕ) (e : Entry) : Type 0 where
  pub is_open : is_ready e.phase ≡ true
  pub until : StaysUntil moment e

-- a step of that role closes a turn of the grain
abbrev ending_at : Role → Option Grain
ending_at (ends h turn) = Some h
ending_at _ = None

closes_there : (step : Step) (g : Grain) (turn : ℕ) → role_of step ≡ ends g turn → may_close g step ≡ true
closes_there (Store other n failed) g turn is = (grain_eq_decides other g).1 (same_Some other g (ap ending_at is))
closes_there (End other n) g turn is = (grain_eq_decides other g).1 (same_Some other g (ap ending_at is))
closes_there (Abandon other n) g turn is = (grain_eq_decides other g).1 (same_Some other g (ap ending_at is))
closes_there _ g turn is = absurd (none-some g (ap ending_at is))

module _ (moment : ℕ) (g : Grain) where
  abbrev Left : Option Entry → Type 0
  Left o = (e : Entry) × (o ≡ Some e) × Stays moment e

  module _ (s : Context) (x : Entry) (seen : s.entry ≡ Some x) (stays : Stays moment x) where
    same_entry : (e : Entry) → s.entry ≡ Some e → Stays moment e
    same_entry e is = subst (Stays moment) (same_Some x e (sym seen ∙ is)) stays

    not_unready : (e : Entry) → s.entry ≡ Some e → is_ready e.phase ≡ false → ⊥
    not_unready e is unready = true≢false (sym (same_entry e is).is_open ∙ unready)

    -- a step that closes no turn there leaves it there
    stays_there : (logic : Logic) (step : Step) → may_close g step ≡ false → {role : Role} {grain : Option Grain} {e : Effect}
        → role_of step ≡ role → grain ≡ Some g → Does logic s step role grain e → Left (change_option s.entry e.entry)
    stays_there logic step apart is at (accepts p q call left a own remains known) =
        let request : Request = record { number = a.count + 1; sender = p; call = call } in (
          with_request s.clock request s.entry,
          refl,
          subst (λ o. Stays moment (with_request s.clock request o)) (sym seen) (record { is_open = stays.is_open; until = record { until = stays.until.until; awake = stays.until.awake } }),
        )
    stays_there logic step apart is at (goes_on q e phase until resting found unready entered) = absurd (not_unready e found unready)
    stays_there logic step apart is at (unloads q e found unready) = absurd (not_unready e found unready)
    stays_there logic step apart is at (opens q e first others found is_open queue may) =
        let old = same_entry e found in (
          record e { queue = others; turns = map.insert e.turns first.number first },
          refl,
          record { is_open = old.is_open; until = record { until = old.until.until; awake = old.until.awake } },
        )
    stays_there logic step apart is at (closes q turn e request left sends row outcome found open_turn is_left by_sends by_row) =
        absurd (true≢false (sym (closes_there step g turn (is ∙ ap (λ (h : Grain). ends h turn) (same_Some q g at))) ∙ apart))
    stays_there logic step apart is at _ = (x, seen, stays)

  -- ---- a step

  abbrev StaysIn : Whole → Type 0
  StaysIn w = Left (map.get w.entries g)

  module _ (logic : Logic) (w after : Whole) (s : Step) (apart : may_close g s ≡ false) (stays : StaysIn w) where
    by_seen : (owner : List ℕ) (e : Effect) (c : Change Entry) → e.entry ≡ c → g.tenant ≡ owner
        → Does logic (context_at (shown_to owner w) (Some g)) s (role_of s) (Some g) e → Left (map.get (change_at w.entries g c) g)
    by_seen owner e c is own does =
        subst Left ((λ i. change_option (seen_own w owner g own i) (is i)) ∙ sym (get-change_same grain_cmp_total grain_cmp_exact w.entries g c))
        (stays_there (context_at (shown_to owner w) (Some g)) stays.0 (seen_own w owner g own ∙ stays.1) stays.2 logic s apart refl refl does)

    at_grain : (owner : List ℕ) (e : Effect) (c : Change Entry) → e.entry ≡ c → WhereChanged c (g.tenant ≡ owner)
        → Does logic (context_at (shown_to owner w) (Some g)) s (role_of s) (Some g) e → Left (map.get (change_at w.entries g c) g)
    at_grain owner e keep is own does = stays
    at_grain owner e (put x) is own does = by_seen owner e (put x) is own does
    at_grain owner e drop is own does = by_seen owner e drop is own does

    -- by where its owner takes it
    abbrev TakenAt : List ℕ → Effect → Option Grain → Type 0
    TakenAt owner e place =
        WhereChanged e.entry (IsAt owner place) → Does logic (context_at (shown_to owner w) place) s (role_of s) place e
        → StaysIn (spread w owner place e)

    taken_at : (owner : List ℕ) (e : Effect) (place : Option Grain) → TakenAt owner e place
    unfolding spread
    taken_at owner e None = λ own does. stays
    taken_at owner e (Some q) =
        either_way (eq_by_cmp grain_cmp g q)
        (λ tied.
        subst (λ (k : Grain). TakenAt owner e (Some k)) ((eq_by_cmp-Decides grain_cmp_total grain_cmp_exact g q).0 tied)
        (λ own does. at_grain owner e e.entry refl own does))
        (λ other own does. (stays.0, get-change_other grain_cmp_total grain_cmp_exact w.entries q g e.entry other ∙ stays.1, stays.2))

    module _ (before : w.clock < moment) where
      step_stays : whole_step logic w s ≡ Some after → StaysIn after
      unfolding context_at shown_to
      step_stays h =
          by_owner logic w after s (StaysIn after) h
          (λ _.
          after_shared w after StaysIn (λ now on. stays)
          (stays.0, used_stays w g stays.0 stays.1 (λ idle. omega (arith, before, stays.2.until.until)), stays.2) s)
          (λ owner is d.
          let place = place_in w owner s in
          let does = did_does logic w after s owner d in
          subst StaysIn d.leaves
          (taken_at owner d.what place (does_placed logic _ s owner (owner_is s ∙ is) refl does) does))

  -- ---- a run

  -- it is there until the moment comes
  abbrev pub HoldsOn : Whole → Type 0
  HoldsOn w = w.clock < moment → StaysIn w

  pub holds_on : (logic : Logic) (w after : Whole) (steps : List Step) → HoldsOn w → all_done logic w steps ≡ Some after
      → list_any (may_close g) steps ≡ false → HoldsOn after
  holds_on logic w after [] holds h apart = subst HoldsOn (same_Some w after h) holds
  holds_on logic w after (s ∷ steps) holds h apart =
      let next = some_from_and_then (λ x. all_done logic x steps) (whole_step logic w s) after h in
      let tests = or_parts (may_close g s) (list_any (may_close g) steps) apart in
      let on = step_on logic w next.0 s next.1 in
      let held : HoldsOn next.0 = λ before.
      let first : w.clock < moment = omega (arith, on.clock, before) in
      step_stays logic w next.0 s tests.0 (holds first) first next.1 in
      holds_on logic next.0 after steps held next.2 tests.1

-- ---- the laws

module _ (logic : Logic) (w : Whole) (g : Grain) (turn time : ℕ) (ending : IsEnding logic w g turn (stay time)) where
  abbrev left : Entry
  left = entry_left logic w g turn (stay time) ending

  left_until : StaysUntil (w.clock + time) left
  left_until = record {
    until = ap (λ said. until_by w.clock said ending.entry.until) ending.says;
    awake = ap (λ said. resting_by said ending.entry.resting) ending.says;
  }

  left_stays : HoldsOn (w.clock + time) g (ended logic w g turn (stay time) ending)
  left_stays before = (
    left,
    ap (λ c. map.get (change_at w.entries g c) g) (awake_stays left left_until.awake) ∙ get-insert_same grain_cmp_total grain_cmp_exact w.entries g left,
    record { is_open = refl; until = left_until },
  )

pub staying_stays : StayingStays
staying_stays logic w g turn time ending = (
  ended logic w g turn (stay time) ending,
  end_is logic w g turn (stay time) ending,
  λ steps later done apart before.
      let held =
      holds_on (w.clock + time) g logic (ended logic w g turn (stay time) ending) later steps
      (left_stays logic w g turn time ending) done apart before in
      (held.0, held.1, held.2.until),
)

pub staying_goes : StayingGoes
staying_goes logic w g moment e found until idle come aged = (whole_swept w, sweep_is logic w, due_goes w g e found idle (due_by come aged))
  where
    due_by : moment ≤ w.clock → e.last + kind_age w.ages w.age g.kind ≤ w.clock → due_moment (kind_age w.ages w.age g.kind) e ≤ w.clock
    due_by come aged = omega (arith, until.until)
