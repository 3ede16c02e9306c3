-- Steps that are tried one after another.
use Rattle.std.proofs.Common.{◌≡◌, ℕ, ◌+◌, ◌&&◌, ◌==◌, Bool, true, false, List, [], ◌∷◌, ◌++◌, length, Option, Some, None, unwrap_or, refl, ap, sym, ◌∙◌, subst, arith, append_assoc, true≢false}
use Rattle.std.specs.Prelude.{◌<◌, is_some, option_and_then, slice_get, if◌then◌else◌}
use Rattle.std.specs.FinMap as map
use Rattle.std.proofs.lemmas.Bool.Decides.{Decides-eqb}
use Rattle.std.proofs.lemmas.List.{append-nil, length-append}
use Rattle.std.proofs.lemmas.Option.{none-some, same_Some}
use Rattle.grain_id.specs.Names.{Client, Grain}
use Rattle.silo_event.specs.Asker.{asker_of}
use Rattle.silo_event.specs.Owner.{owner_of}
use Rattle.silo_event.specs.Failed.{has_failed, may_fail, as_failed}
use Rattle.silo_event.specs.declared.step.Step.{Step}
use Rattle.silo_event.specs.declared.step.Step.TheVariants.{Refuse, Call, Poke, Status, Deliver, Activate, Load, Begin, Store, End, Abandon, Tick, Sweep}
use Rattle.grain_logic.specs.Logic.{Logic}
use Rattle.silo_model.specs.Machine.{Entry, Request, Phase, waiting, loading, ready}
use Rattle.silo_model.specs.Turns.{activated, opened, opened_if_ready}
use Rattle.silo_model.specs.Step.{effect_of}
use Rattle.silo_model.specs.Whole.{Whole, whole_step}
use Rattle.silo_model.specs.Run.{if_possible, done_by, whole_run}
use Rattle.silo_model.proofs.Contexts.{step_at_own}
use Rattle.silo_model.proofs.EntrySteps.{activate_found, begin_found}
use Rattle.silo_model.proofs.Runs.{whole_after, run_by-append, done_by-append}
use Rattle.silo_state.specs.Work.{first_number, first_waiting}
use Rattle.silo_core.specs.History.{History, Failures, Advances, Fails, StaysAsItWas, failed_since}
use Rattle.silo_core.specs.AtOnce as at_once
use Rattle.answer_model.specs.Answering.{Luck, Closing, well, storage_failed, out_of_memory, whole_stepper, taken_by, raising, ending, closing, turn_of, turn_of_first, turning, serving, bringing, is_accepted, deliveries_of, is_asked, called_grain, given_up_if, has_memory, all_have_memory}
use Rattle.line_answer.specs.Delivering.{HasDelivered}
use Rattle.line_answer.specs.Trying.{failed_among, Tries, is_possible, TakesNow, IsFirst, Begins, Opens, Closes, Serves, Brings, EndsIn, AnswersAsked, AnswersBy, closing_if}

-- ---- lists of steps that are tried

failed_among-append : (steps others : List Step) → failed_among (steps ++ others) ≡ failed_among steps + failed_among others
failed_among-append [] others = omega arith
failed_among-append (s ∷ steps) others = omega (arith, failed_among-append steps others)

since : (n m k : ℕ) (f : Failures) → k ≡ n + m → failed_since k f ≡ failed_since m (failed_since n f)
since n m k f is = λ i. record { at_opening = f.at_opening; now = sums i }
  where
    sums : f.now + k ≡ f.now + n + m
    sums = omega arith

since_none : (f : Failures) → f ≡ failed_since 0 f
since_none f = λ i. record { at_opening = f.at_opening; now = sums i }
  where
    sums : f.now ≡ f.now + 0
    sums = omega arith

-- a step is taken as it is, or with its mark
marked : (b : Bool) (s : Bool → Step) → as_failed (s false) ≡ s true → taken_by b (s false) ≡ s b
marked true s is = is
marked false s is = refl

pub plain : (b : Bool) (s : Step) → as_failed s ≡ s → taken_by b s ≡ s
plain b s = marked b (λ _. s)

module _ (logic : Logic) where
  pub tries_none : (old : History) → Tries logic old [] old
  tries_none old = record { setup = refl; whole = refl; journal = sym (append-nil old.journal); failures = since_none old.failures }

  pub tries_on : (old mid new : History) (steps others : List Step) → Tries logic old steps mid → Tries logic mid others new → Tries logic old (steps ++ others) new
  tries_on old mid new steps others p q =
      let done = done_by (whole_step logic) old.whole steps in
      let later : done_by (whole_step logic) mid.whole others ≡ done_by (whole_step logic) (whole_run logic old.whole steps) others = ap (λ w. done_by (whole_step logic) w others) p.whole in
      let all : done_by (whole_step logic) old.whole (steps ++ others) ≡ done ++ done_by (whole_step logic) mid.whole others = done_by-append (whole_step logic) old.whole steps others ∙ ap (λ ss. done ++ ss) (sym later) in
      record {
        setup = q.setup ∙ p.setup;
        whole = q.whole ∙ ap (λ w. whole_run logic w others) p.whole ∙ sym (run_by-append (whole_step logic) old.whole steps others);
        journal = q.journal ∙ ap (λ j. j ++ done_by (whole_step logic) mid.whole others) p.journal ∙ append_assoc old.journal done _ ∙ ap (λ ss. old.journal ++ ss) (sym all);
        failures =
            q.failures ∙ ap (failed_since (failed_among (done_by (whole_step logic) mid.whole others))) p.failures
            ∙ sym (since (failed_among done) (failed_among (done_by (whole_step logic) mid.whole others)) (failed_among (done_by (whole_step logic) old.whole (steps ++ others))) old.failures
            (ap failed_among all ∙ failed_among-append done (done_by (whole_step logic) mid.whole others)));
      }

  -- one step, by what becomes of it
  tries_by : (old new : History) (s : Step) (r : Option Whole) → whole_step logic old.whole s ≡ r → new.setup ≡ old.setup → new.whole ≡ unwrap_or r old.whole
      → new.journal ≡ old.journal ++ (if_possible s r ++ []) → new.failures ≡ failed_since (failed_among (if_possible s r ++ [])) old.failures → Tries logic old (s ∷ []) new
  tries_by old new s r is setup whole journal failures = record {
    setup = setup;
    whole = whole ∙ sym (ap (λ o. unwrap_or o old.whole) is);
    journal = journal ∙ sym (ap (λ o. old.journal ++ (if_possible s o ++ [])) is);
    failures = failures ∙ sym (ap (λ o. failed_since (failed_among (if_possible s o ++ [])) old.failures) is);
  }

  -- a step that isn't possible changes nothing
  tries_not : (old : History) (s : Step) → is_possible logic old.whole s ≡ false → Tries logic old (s ∷ []) old
  tries_not old s never = by (whole_step logic old.whole s) refl
    where
      by : (r : Option Whole) → whole_step logic old.whole s ≡ r → Tries logic old (s ∷ []) old
      by None is = tries_by old old s None is refl refl (sym (append-nil old.journal)) (since_none old.failures)
      by (Some after) is = absurd (true≢false (sym (ap is_some is) ∙ never))

  -- a step that is done
  tries_step : (old new : History) (s : Step) (failed : ℕ) → failed ≡ failed_among (s ∷ []) → Advances logic old s failed new → Tries logic old (s ∷ []) new
  tries_step old new s failed marked adv = tries_by old new s (Some new.whole) adv.whole adv.setup refl adv.journal (adv.failures ∙ ap (λ n. failed_since n old.failures) marked)

  marked_once : (s : Step) → may_fail s ≡ true → failed_among (as_failed s ∷ []) ≡ 1
  marked_once (Poke failed caller id grain state) h = refl
  marked_once (Load grain failed) h = refl
  marked_once (Store grain turn failed) h = refl
  marked_once _ h = absurd (true≢false (sym h))

  pub takes_done : (old new : History) (s : Step) → has_failed s ≡ false → Advances logic old s 0 new → TakesNow logic old s true new
  takes_done old new s plain adv = (false, tries_step old new s 0 (sym (ap (λ b. (if b then 1 else 0) + 0) plain)) adv, ap is_some adv.whole)

  pub takes_failed : (old new : History) (s : Step) → Fails logic old s new → TakesNow logic old s true new
  takes_failed old new s fails = (true, tries_step old new (as_failed s) 1 (sym (marked_once s fails.calls)) fails.advances, ap is_some fails.advances.whole)

  pub takes_not : (old new : History) (s : Step) → StaysAsItWas logic old s new → TakesNow logic old s false new
  takes_not old new s stays = (ap is_some stays.impossible, stays.unchanged)

  -- ---- one request

  -- a step that was taken or not was tried
  pub tried : (old new : History) (s : Step) (done : Bool) → TakesNow logic old s done new → (failed : Bool) × Tries logic old (taken_by failed s ∷ []) new × (is_possible logic old.whole (taken_by failed s) ≡ done)
  tried old new s true takes = takes
  tried old new s false takes = (false, subst (Tries logic old (s ∷ [])) (sym takes.1) (tries_not old s takes.0), takes.0)

  taken_plain : (old new : History) (s : Step) → as_failed s ≡ s → TakesNow logic old s true new → Tries logic old (s ∷ []) new × (is_possible logic old.whole s ≡ true)
  taken_plain old new s is takes = subst (λ r. Tries logic old (r ∷ []) new × (is_possible logic old.whole r ≡ true)) (plain takes.0 s is) (takes.1, takes.2)

  tried_marked : (old new : History) (s : Bool → Step) (done : Bool) → as_failed (s false) ≡ s true → TakesNow logic old (s false) done new → (failed : Bool) × Tries logic old (s failed ∷ []) new
  tried_marked old new s done is takes =
      let all = tried old new (s false) done takes in
      (all.0, subst (λ r. Tries logic old (r ∷ []) new) (marked all.0 s is) all.1)

  module _ (old mid new : History) (g : Grain) where
    abbrev Raised : Type 0
    Raised = (failed : Bool) × Tries logic old (raising (whole_stepper logic) old.whole g failed) new

    pub raised : (done : Bool) → TakesNow logic old (Activate g) true mid → TakesNow logic mid (Load g false) done new → Raised
    raised done up loads =
        let begins = taken_plain old mid (Activate g) refl up in
        let loaded = tried_marked mid new (Load g) done refl loads in (
          loaded.0,
          subst (λ b. Tries logic old (if b then Activate g ∷ Load g loaded.0 ∷ [] else []) new) (sym begins.1)
              (tries_on old mid new (Activate g ∷ []) (Load g loaded.0 ∷ []) begins.0 loaded.1),
        )

  pub not_raised : (old new : History) (g : Grain) → TakesNow logic old (Activate g) false new → Raised old old new g
  not_raised old new g takes =
      (false, subst (λ b. Tries logic old (if b then Activate g ∷ Load g false ∷ [] else []) new) (sym takes.0) (subst (Tries logic old []) (sym takes.1) (tries_none old)))

  abbrev EndsTurn : History → Grain → ℕ → History → Type 0
  EndsTurn old g turn new = (failed : Bool) × Tries logic old (ending (whole_stepper logic) old.whole g turn failed) new

  pub ended : (old new : History) (g : Grain) (turn : ℕ) → TakesNow logic old (End g turn) true new → EndsTurn old g turn new
  ended old new g turn takes =
      let all = taken_plain old new (End g turn) refl takes in
      (false, subst (λ b. Tries logic old (if b then End g turn ∷ [] else Store g turn false ∷ []) new) (sym all.1) all.0)

  pub stored : (old mid new : History) (g : Grain) (turn : ℕ) (done : Bool) → TakesNow logic old (End g turn) false mid → TakesNow logic mid (Store g turn false) done new
      → EndsTurn old g turn new
  stored old mid new g turn done not takes =
      let all = tried_marked mid new (Store g turn) done refl takes in (
        all.0,
        subst (λ b. Tries logic old (if b then End g turn ∷ [] else Store g turn all.0 ∷ []) new) (sym not.0)
            (subst (λ h. Tries logic h (Store g turn all.0 ∷ []) new) not.1 all.1),
      )

  pub closed : (old new : History) (g : Grain) (turn : ℕ) (b : Bool) → b ≡ false → EndsTurn old g turn new → Closes logic old g turn b true new
  closed old new g turn b is ends = subst (λ b. Closes logic old g turn b true new) (sym is) (by ends)
    where
      by : EndsTurn old g turn new → Closes logic old g turn false true new
      by (false, tries) = (well, tries, λ _. refl)
      by (true, tries) = (storage_failed, tries, λ _. refl)

  pub given_up : (old new : History) (g : Grain) (turn : ℕ) (done : Bool) → TakesNow logic old (Abandon g turn) done new → Tries logic old (Abandon g turn ∷ []) new
  given_up old new g turn done takes = (tried_marked old new (λ _. Abandon g turn) done refl takes).1

  pub ran_out : (old new : History) (g : Grain) (turn : ℕ) (b : Bool) → b ≡ false → Tries logic old (Abandon g turn ∷ []) new → Closes logic old g turn b false new
  ran_out old new g turn b is tries =
      subst (λ b. Closes logic old g turn b false new) (sym is) (out_of_memory, tries, λ none. absurd (true≢false (sym none)))

  pub has_to : (old new : History) (g : Grain) (turn : ℕ) (b : Bool) → b ≡ true → Tries logic old (Abandon g turn ∷ []) new → Closes logic old g turn b true new
  has_to old new g turn b is tries = subst (λ b. Closes logic old g turn b true new) (sym is) (well, tries, λ _. refl)

  -- ---- the request's turn, and all of it

  first_of : (queue : List Request) (number : ℕ) → first_number queue ≡ Some number → (first : Request) × (others : List Request) × (queue ≡ first ∷ others) × (first.number ≡ number)
  first_of [] number is = absurd (none-some number is)
  first_of (first ∷ others) number is = (first, others, refl, same_Some first.number number is)

  first_at : (w : Whole) (g : Grain) (number : ℕ) (found : Option Entry) → map.get w.entries g ≡ found → first_waiting found ≡ Some number → IsFirst w g number
  first_at w g number None found is = absurd (none-some number is)
  first_at w g number (Some e) found is =
      let first = first_of e.queue number is in
      record { entry = e; first = first.0; others = first.1; found = found; queue = first.2; numbered = first.3 }

  -- a turn began
  pub begun : (old new : History) (g : Grain) (number : ℕ) → first_waiting (map.get old.whole.entries g) ≡ Some number → TakesNow logic old (Begin g) true new → Begins logic old g (Some number) new
  begun old new g number first takes =
      let all = taken_plain old new (Begin g) refl takes in
      (all.0, all.1, first_at old.whole g number (map.get old.whole.entries g) refl first)

  -- where none waits, none can begin
  none_opens : (g : Grain) (e : Entry) (queue : List Request) → first_number queue ≡ None → opened logic g e queue ≡ None
  none_opens g e [] none = refl
  none_opens g e (first ∷ others) none = absurd (none-some first.number (sym none))

  none_ready : (g : Grain) (e : Entry) (p : Phase) → first_number e.queue ≡ None → opened_if_ready logic g e p ≡ None
  none_ready g e (ready state version) none = none_opens g e e.queue none
  none_ready g e _ none = refl

  none_at : (g : Grain) (found : Option Entry) → first_waiting found ≡ None → option_and_then (λ e. opened_if_ready logic g e e.phase) found ≡ None
  none_at g None none = refl
  none_at g (Some e) none = none_ready g e e.phase none

  pub begins_not : (h : History) (g : Grain) → first_waiting (map.get h.whole.entries g) ≡ None → Begins logic h g None h
  unfolding effect_of
  begins_not h g none = (ap is_some (step_at_own logic h.whole (Begin g) g.tenant g None refl refl refl (none_at g (map.get h.whole.entries g) none)), refl)

  module _ (w : Whole) (g : Grain) (e : Entry) (found : map.get w.entries g ≡ Some e) (begins : is_possible logic w (Begin g) ≡ true) where
    is_up : (p : Phase) → e.phase ≡ p → is_possible logic w (Activate g) ≡ false
    is_up waiting is = absurd (true≢false (sym begins ∙ ap is_some (begin_found logic w g e found None (ap (opened_if_ready logic g e) is))))
    is_up loading is = ap is_some (activate_found logic w g e found None (ap (activated e) is))
    is_up (ready state version) is = ap is_some (activate_found logic w g e found None (ap (activated e) is))

    -- where a turn can begin, the grain isn't brought up
    none_to_raise : (failed : Bool) → raising (whole_stepper logic) w g failed ≡ []
    none_to_raise failed = ap (λ b. if b then Activate g ∷ Load g failed ∷ [] else []) (is_up e.phase refl)

  -- a turn that began at once
  pub opened_at_once : (old new : History) (g : Grain) (number : ℕ) → Begins logic old g (Some number) new → Opens logic old g (Some number) new
  opened_at_once old new g number begins = (
    old,
    (false, subst (λ steps. Tries logic old steps old) (sym (none_to_raise old.whole g begins.2.entry begins.2.found begins.1 false)) (tries_none old)),
    begins,
  )

  abbrev with_luck : Bool → Closing → Luck
  with_luck failed how = record { asking_failed = false; loading_failed = failed; closing = how }

  luck_if : (b failed : Bool) (how : Closing) → with_luck failed (closing_if b how) ≡ given_up_if b (with_luck failed how)
  luck_if true failed how = refl
  luck_if false failed how = refl

  -- in the whole where the steps before led
  turning_at : (old mid new : History) (g : Grain) (b failed : Bool) (how : Closing) → Tries logic old (raising (whole_stepper logic) old.whole g failed) mid
      → Tries logic mid (turning (whole_stepper logic) mid.whole g (closing_if b how)) new
      → Tries logic old (serving (whole_stepper logic) old.whole g (given_up_if b (with_luck failed how))) new
  turning_at old mid new g b failed how up turn =
      let steps = raising (whole_stepper logic) old.whole g failed in
      subst (λ luck. Tries logic old (serving (whole_stepper logic) old.whole g luck) new) (luck_if b failed how)
      (tries_on old mid new steps _ up (subst (λ w. Tries logic mid (turning (whole_stepper logic) w g (closing_if b how)) new) up.whole turn))

  pub served_not : (old mid new : History) (g : Grain) (b : Bool) → Raised old old mid g → Begins logic mid g None new → Serves logic old g b true new
  served_not old mid new g b up begins = (
    with_luck up.0 well,
    turning_at old mid new g b up.0 well up.1
        (subst (λ can. Tries logic mid (if can then turn_of (whole_stepper logic) mid.whole g (closing_if b well) (map.get mid.whole.entries g) else []) new) (sym begins.0)
        (subst (Tries logic mid []) (sym begins.1) (tries_none mid))),
    λ _. refl,
  )

  pub served : (old mid begun new : History) (g : Grain) (number : ℕ) (b memory : Bool) → Raised old old mid g → Begins logic mid g (Some number) begun
      → Closes logic begun g number b memory new → Serves logic old g b memory new
  served old mid begun new g number b memory up begins closes =
      let by = whole_stepper logic in
      let w = mid.whole in
      let first = begins.2 in
      let how = closing_if b closes.0 in (
        with_luck up.0 closes.0,
        turning_at old mid new g b up.0 closes.0 up.1
            (subst (λ can. Tries logic mid (if can then turn_of by w g how (map.get w.entries g) else []) new) (sym begins.1)
            (subst (λ found. Tries logic mid (turn_of by w g how found) new) (sym first.found)
            (subst (λ queue. Tries logic mid (turn_of_first by w g how queue) new) (sym first.queue)
            (tries_on mid begun new (Begin g ∷ []) _ begins.0
            (subst (λ n. Tries logic begun (closing by (whole_after logic w (Begin g)) g n how) new) (sym first.numbered)
            (subst (λ x. Tries logic begun (closing by x g number how) new) begins.0.whole closes.1)))))),
        closes.2,
      )

  -- ---- a step that may bring a request

  -- how asking went is nothing to the request's turn
  asking_apart : (b failed : Bool) (luck : Luck) (w : Whole) (g : Grain)
      → serving (whole_stepper logic) w g (given_up_if b luck) ≡ serving (whole_stepper logic) w g (given_up_if b (record luck { asking_failed = failed }))
  asking_apart true failed luck w g = refl
  asking_apart false failed luck w g = refl

  module _ (old mid : History) (s : Step) (b done : Bool) (takes : TakesNow logic old s done mid) where
    abbrev all_of : (failed : Bool) × Tries logic old (taken_by failed s ∷ []) mid × (is_possible logic old.whole (taken_by failed s) ≡ done)
    all_of = tried old mid s done takes

    abbrev asking_luck : Luck
    asking_luck = record { asking_failed = all_of.0; loading_failed = false; closing = well }

    pub brought_none : Brings logic old s None b done true mid
    brought_none = (asking_luck, all_of.1, all_of.2, λ _. refl)

    same_test : (g : Grain) (same : Bool) → (length mid.whole.replies == length old.whole.replies) ≡ same
        → is_accepted (whole_stepper logic) old.whole (whole_after logic old.whole (taken_by all_of.0 s)) ≡ same
    same_test g same is = ap (λ (w : Whole). length w.replies == length old.whole.replies) (sym all_of.1.whole) ∙ is

    pub brought_refused : (g : Grain) → (length mid.whole.replies == length old.whole.replies) ≡ false → Brings logic old s (Some g) b done true mid
    brought_refused g refused =
        let after = whole_after logic old.whole (taken_by all_of.0 s) in
        let luck = given_up_if b asking_luck in (
          asking_luck,
          subst (λ accepted. Tries logic old (taken_by all_of.0 s ∷ (if accepted then serving (whole_stepper logic) after g luck else [])) mid)
              (sym (same_test g false refused)) all_of.1,
          all_of.2,
          λ _. refl,
        )

    pub brought : (g : Grain) (new : History) (memory : Bool) → (length mid.whole.replies == length old.whole.replies) ≡ true → Serves logic mid g b memory new
        → Brings logic old s (Some g) b done memory new
    brought g new memory accepted serves =
        let after = whole_after logic old.whole (taken_by all_of.0 s) in
        let luck : Luck = record serves.0 { asking_failed = all_of.0 } in
        let all = given_up_if b luck in (
          luck,
          subst (λ accepted. Tries logic old (taken_by all_of.0 s ∷ (if accepted then serving (whole_stepper logic) after g all else [])) new)
              (sym (same_test g true accepted))
              (tries_on old mid new (taken_by all_of.0 s ∷ []) (serving (whole_stepper logic) after g all) all_of.1
              (subst (λ w. Tries logic mid (serving (whole_stepper logic) w g all) new) all_of.1.whole
              (subst (λ steps. Tries logic mid steps new) (asking_apart b all_of.0 serves.0 mid.whole g) serves.1))),
          all_of.2,
          serves.2,
        )

-- ---- a call that is served at once

module _ (logic : Logic) (old new : History) (s : Step) (plain : has_failed s ≡ false) (d : at_once.Serves logic old s new) where
  same_replies : (length d.called.whole.replies == length old.whole.replies) ≡ true
  same_replies = (Decides-eqb _ _).1 (ap length d.untold)

  pub brought_at_once : Brings logic old s (called_grain s) false true true new
  brought_at_once =
      let g = d.grain in
      let begins = begun logic d.called d.begun g d.turn d.waits (takes_done logic d.called d.begun (Begin g) refl d.begins) in
      let opens = opened_at_once logic d.called d.begun g d.turn begins in
      let closes = closed logic d.begun new g d.turn false refl (ended logic d.begun new g d.turn (takes_done logic d.begun new (End g d.turn) refl d.ends)) in
      subst (λ grain. Brings logic old s grain false true true new) (sym (ap called_grain d.is_call.is))
      (brought logic old d.called s false true (takes_done logic old d.called s plain d.calls) g new true same_replies
      (served logic d.called opens.0 d.begun new g d.turn false true opens.1 opens.2 closes))

  pub ends_in : EndsIn new.journal s
  ends_in =
      let g = d.grain in (
        old.journal,
        Begin g,
        End g d.turn,
        d.ends.journal
            ∙ ap (λ j. j ++ End g d.turn ∷ []) (d.begins.journal ∙ ap (λ j. j ++ Begin g ∷ []) d.calls.journal)
            ∙ ap (λ j. j ++ End g d.turn ∷ []) (append_assoc old.journal (s ∷ []) (Begin g ∷ []))
            ∙ append_assoc old.journal (s ∷ Begin g ∷ []) (End g d.turn ∷ []),
      )

  pub asked_by : asker_of s ≡ Some d.is_call.caller
  asked_by = ap asker_of d.is_call.is

-- ---- the step that is the third from the end

get_behind : {X : Type 0} (before : List X) (x : X) (xs : List X) → slice_get (before ++ x ∷ xs) (length before) ≡ Some x
get_behind [] x xs = refl
get_behind (y ∷ ys) x xs = get_behind ys x xs

module _ (journal : List Step) (call : Step) (ends : EndsIn journal call) where
  three_more : length journal ≡ length ends.0 + 3
  three_more = ap length ends.3 ∙ length-append ends.0 _

  pub not_short : length journal < 3 → ⊥
  not_short short = let long = three_more in absurd (omega (arith, long, short))

  pub third_last : (place : ℕ) → place + 3 ≡ length journal → slice_get journal place ≡ Some call
  third_last place is =
      let all = three_more in
      let same : place ≡ length ends.0 = omega (arith, all, is) in
      ap (slice_get journal) same ∙ ap (λ j. slice_get j (length ends.0)) ends.3 ∙ get_behind ends.0 call _

-- ---- memory for all turns

both_are : (b c : Bool) → (b && c) ≡ true → (b ≡ true) × (c ≡ true)
both_are true c is = (refl, is)
both_are false c is = absurd (true≢false (sym is))

pub first_has : (luck : Luck) (lucks : List Luck) (one others : Bool) → (one ≡ true → has_memory luck ≡ true) → (others ≡ true → all_have_memory lucks ≡ true)
    → (one && others) ≡ true → all_have_memory (luck ∷ lucks) ≡ true
first_has luck lucks one others first later is =
    let both = both_are one others is in (λ i. first both.0 i && later both.1 i)

pub last_has : (lucks : List Luck) (luck : Luck) (one others : Bool) → (one ≡ true → has_memory luck ≡ true) → (others ≡ true → all_have_memory lucks ≡ true)
    → (one && others) ≡ true → all_have_memory (lucks ++ luck ∷ []) ≡ true
last_has [] luck one others last before is = ap (λ b. b && true) (last (both_are one others is).0)
last_has (x ∷ lucks) luck one others last before is =
    let both = both_are one others is in
    let all = both_are (has_memory x) (all_have_memory lucks) (before both.1) in
    (λ i. all.0 i && last_has lucks luck one true last (λ _. all.1) (λ j. both.0 j && true) i)

-- ---- all that is asked

owner_by_asker : (s : Step) (caller : Client) → asker_of s ≡ Some caller → owner_of s ≡ Some caller.tenant
owner_by_asker (Refuse c id code) caller is = ap (λ (x : Client). Some x.tenant) (same_Some c caller is)
owner_by_asker (Call c id grain message) caller is = ap (λ (x : Client). Some x.tenant) (same_Some c caller is)
owner_by_asker (Poke failed c id grain state) caller is = ap (λ (x : Client). Some x.tenant) (same_Some c caller is)
owner_by_asker (Status c id) caller is = ap (λ (x : Client). Some x.tenant) (same_Some c caller is)
owner_by_asker _ caller is = absurd (none-some caller is)

nobodys : (s : Step) → asker_of s ≡ None → is_asked s ≡ true → owner_of s ≡ None
nobodys (Tick now) none asked = refl
nobodys Sweep none asked = refl
nobodys (Refuse c id code) none asked = absurd (none-some c (sym none))
nobodys (Call c id grain message) none asked = absurd (none-some c (sym none))
nobodys (Poke failed c id grain state) none asked = absurd (none-some c (sym none))
nobodys (Status c id) none asked = absurd (none-some c (sym none))
nobodys _ none asked = absurd (true≢false (sym asked))

-- what is asked has no mark of a failure
pub asked_plain : (s : Step) → is_asked s ≡ true → has_failed s ≡ false
asked_plain (Poke true c id grain state) asked = absurd (true≢false (sym asked))
asked_plain (Load grain failed) asked = absurd (true≢false (sym asked))
asked_plain (Store grain turn failed) asked = absurd (true≢false (sym asked))
asked_plain _ asked = refl

module _ (logic : Logic) (n : ℕ) (old mid new : History) (s : Step) (done memory : Bool) (brings : Brings logic old s (called_grain s) false done memory mid) where
  -- with the deliveries behind it
  answers_by : (owner : Option (List ℕ)) (later : List Luck) → owner_of s ≡ owner → Tries logic mid (deliveries_of (whole_stepper logic) n mid.whole owner later) new
      → (answers : AnswersAsked logic n old s done new) × (answers.lucks ≡ brings.0 ∷ later)
  answers_by owner later is delivers =
      let by = whole_stepper logic in
      let steps = bringing by old.whole (taken_by brings.0.asking_failed s) (called_grain s) brings.0 in (
        record {
          lucks = brings.0 ∷ later;
          tries = tries_on logic old mid new steps _ brings.1
              (subst (λ w. Tries logic mid (deliveries_of by n w (owner_of s) later) new) brings.1.whole
              (subst (λ o. Tries logic mid (deliveries_of by n mid.whole o later) new) (sym is) delivers));
          possible = brings.2;
        },
        refl,
      )

  -- a client asked
  pub answers_client : (caller : Client) (had : Bool) → asker_of s ≡ Some caller → HasDelivered logic n caller.tenant mid had new
      → AnswersBy logic n old s done (memory && had) new
  answers_client caller had is (lucks, tries, all) =
      let answers = answers_by (Some caller.tenant) lucks (owner_by_asker s caller is) tries in
      record { answers = answers.0; had = λ true_both. ap all_have_memory answers.1 ∙ first_has brings.0 lucks memory had brings.3 all true_both }

  -- nobody did
  pub answers_nobody : asker_of s ≡ None → is_asked s ≡ true → new ≡ mid → AnswersBy logic n old s done memory new
  answers_nobody none asked same =
      let answers = answers_by None [] (nobodys s none asked) (subst (Tries logic mid []) (sym same) (tries_none logic mid)) in
      record { answers = answers.0; had = λ is. ap all_have_memory answers.1 ∙ ap (λ b. b && true) (brings.3 is) }
