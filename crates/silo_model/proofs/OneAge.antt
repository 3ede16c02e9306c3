-- Where no plan says anything of the activation no entry stays or rests; and where no kind has an age of its own, one age counts.
use Rattle.silo_model.proofs.Common.{◌+◌, ◌<◌, ◌∙◌, ◌≡◌, ◌≤◌, Bool, Change, Entry, Grain, Keep, List, Logic, None, Option, Phase, Request}
use Rattle.silo_model.proofs.Common.{Some, Whole, [], ap, arith, due_moment, inl, inr, kind_age, refl, resting_by, same, subst, sym}
use Rattle.silo_model.proofs.Common.{until_by, whole_swept, with_request, ℕ}
use Rattle.std.specs.FinMap as map
use Rattle.idle_collector.specs.Ages.{Ages}
use Rattle.grain_logic.specs.Laws.{KeepsSame}
use Rattle.silo_model.specs.Resting.{LeavesYounger, OneAgeCounts, StaysUntil}
use Rattle.silo_model.proofs.Changes.{OfPut}
use Rattle.silo_model.proofs.ClockSteps.{sweep_is}
use Rattle.silo_model.proofs.EachEntry.{Each, Puts, journal_each}
use Rattle.silo_model.proofs.EffectKinds.{IsAsSaid, IsEntered, IsLeft, MaySay, accepts, closes, goes, goes_on, opens, stays}
use Rattle.silo_model.proofs.IdleEntries.{due_goes, used_stays}
use Rattle.silo_model.proofs.SameAges.{journal_ages}

-- neither stays nor rests
abbrev pub IsPlain : Entry → Type 0
IsPlain e = StaysUntil 0 e

with_request_plain : (clock : ℕ) (q : Request) (found : Option Entry) → ((x : Entry) → found ≡ Some x → IsPlain x) → IsPlain (with_request clock q found)
with_request_plain clock q None old = record { until = refl; awake = refl }
with_request_plain clock q (Some e) old = let was = old e refl in record { until = was.until; awake = was.awake }

entered_plain : (e : Entry) (phase : Phase) (until : ℕ) (resting : Bool) → IsPlain e → IsEntered e phase until resting
    → IsPlain (record e { phase = phase; until = until; resting = resting })
entered_plain e phase until resting was (inl (unready, same_until, same_resting)) = record { until = same_until ∙ was.until; awake = same_resting ∙ was.awake }
entered_plain e phase until resting was (inr (none, awake)) = record { until = none; awake = awake }

module _ (logic : Logic) (keeps_same : KeepsSame logic) where
  nothing_said : (g : Grain) (request : Request) (said : Keep) → MaySay logic g request said → said ≡ same
  nothing_said g request said (inl is) = is
  nothing_said g request said (inr (state, is)) = sym is ∙ keeps_same g.kind request.call.method state request.call.argument

  said_plain : (g : Grain) (e : Entry) (request : Request) (new : Entry) → IsPlain e → IsAsSaid logic g e request new → IsPlain new
  said_plain g e request new was is =
      let nothing = nothing_said g request is.said is.may_say in
      record {
        until = is.until ∙ ap (λ said. until_by is.clock said e.until) nothing ∙ was.until;
        awake = is.resting ∙ ap (λ said. resting_by said e.resting) nothing ∙ was.awake;
      }

  left_plain : (g : Grain) (e : Entry) (request : Request) (c : Change Entry) → IsPlain e → IsLeft logic g e request c → OfPut IsPlain c
  left_plain g e request _ was (stays new queue turns rests said) = said_plain g e request new was said
  left_plain g e request _ was (goes none alone) = tt

  puts_plain : Puts IsPlain logic
  puts_plain s step _ _ _ old (accepts p g call left a own remains known) = with_request_plain s.clock _ s.entry old
  puts_plain s step _ _ _ old (goes_on g e phase until resting found rests entered) = entered_plain e phase until resting (old e found) entered
  puts_plain s step _ _ _ old (opens g e first others found is_open queue may) = let was = old e found in record { until = was.until; awake = was.awake }
  puts_plain s step _ _ _ old (closes g turn e request left sends row outcome found open_turn is_left by_sends by_row) = left_plain g e request left (old e found) is_left
  puts_plain s step _ _ _ old _ = tt

-- ---- the sweep

-- where no kind has an age of its own
one_age : (ages : Ages) (age : ℕ) (kind : List ℕ) → ages ≡ [] → kind_age ages age kind ≡ age
one_age ages age kind none = ap (λ (a : Ages). kind_age a age kind) none

plain_moment : (age own : ℕ) (e : Entry) → IsPlain e → own ≡ age → due_moment own e ≡ e.last + age
plain_moment age own e plain is = omega (arith, plain.until, is)

module _ (age : ℕ) (w : Whole) (one : w.age ≡ age) (none : w.ages ≡ []) (plain : Each IsPlain w) where
  moment_is : (g : Grain) (e : Entry) → map.get w.entries g ≡ Some e → due_moment (kind_age w.ages w.age g.kind) e ≡ e.last + age
  moment_is g e found = plain_moment age (kind_age w.ages w.age g.kind) e (plain g e found) (one_age w.ages w.age g.kind none ∙ one)

  pub leaves_younger : LeavesYounger age w (whole_swept w)
  leaves_younger = record {
    goes = λ g e found idle come. due_goes w g e found idle (subst (λ n. n ≤ w.clock) (sym (moment_is g e found)) come);
    stays = λ g e found later. used_stays w g e found (λ idle. subst (λ n. w.clock < n) (sym (moment_is g e found)) (later idle));
    rows = refl;
  }

pub one_age_counts : OneAgeCounts
one_age_counts logic keeps_same setup journal w none_stays leads =
    let plain = journal_each IsPlain logic (puts_plain logic keeps_same) setup journal w (λ g k found. record { until = none_stays g k found; awake = refl }) leads in
    let ages = journal_ages logic setup journal w leads in
    (plain, λ none. (whole_swept w, sweep_is logic w, leaves_younger setup.age w ages.0 (ages.1 ∙ none) plain))
