-- Along every list of answered steps the turns that are open are among those of the whole's entries, and so a turn that may write is alone.
use Rattle.silo_model.proofs.Common.{◌&&◌, ◌++◌, ◌==◌, ◌∙◌, ◌∷◌, ◌≡◌, ◌≢◌, Abandon, Account, AllByRecursion, AreAnswers, Begin, Bool, End}
use Rattle.silo_model.proofs.Common.{Entry, Grain, List, Logic, None, Option, ReadersAskNothing, Request, Setup, Some, Step, Store, Whole}
use Rattle.silo_model.proofs.Common.{[], all_weaker, ap, as_failed, cond, eq-eqb, false, false_from_ne_true, filter, grain_eq}
use Rattle.silo_model.proofs.Common.{grain_eq_decides, grain_of, list_any, machine_run, not, opening, reads, refl, restricted_to, shown_to}
use Rattle.silo_model.proofs.Common.{start_of, subst, sym, true, true≢false, unwrap_or, whole_run, whole_step, ℕ}
use Rattle.finite_maps.proofs.Lists.{all_append, all_at}
use Rattle.silo_model.proofs.Tests.{on_found, on_test}
use Rattle.std.specs.FinMap as map
use Rattle.std.proofs.lemmas.Bool.{or_from}
use Rattle.silo_event.specs.Failed.{marked_step}
use Rattle.silo_event.specs.declared.step.Answer.{Answer}
use Rattle.silo_event.specs.declared.step.Answer.TheVariants as answer
use Rattle.silo_model.specs.Answers.{IsAnswer}
use Rattle.silo_model.specs.Exclusive.{ExclusiveFrom, OpenTurn, RunsAreExclusive, WritersAlone, first_waiting, is_turn, turn_begun}
use Rattle.silo_model.specs.Exclusive.{turns_after, turns_without}
use Rattle.silo_model.proofs.Moves.{ClosesTurn, KeepsTurns, OpensTurn, TurnsMove, turn_in}
use Rattle.silo_model.proofs.Contexts.{shown_own}
use Rattle.silo_model.proofs.Sound.{IsSound}
use Rattle.silo_model.proofs.Runs.{run_sound, whole_after, whole_run-append}
use Rattle.silo_model.proofs.Opening.{opening_sound, replay_is_run}
use Rattle.silo_model.proofs.StepMoves.{IsFairMachine}
use Rattle.silo_model.proofs.FairRuns.{run_fair, start_fair}
use Rattle.silo_model.proofs.WholeTurns.{AllFair, begin_opens, closes_turn, keeps_turns}

-- ---- the listed turns are open

abbrev IsListed : Whole → OpenTurn → Type 0
IsListed w t = turn_in (map.get w.entries t.grain) t.request.number ≡ Some t.request

abbrev AreListed : Whole → List OpenTurn → Type 0
AreListed w turns = AllByRecursion (IsListed w) turns

-- what passes a test, of what all have
all_filtered : {A : Type 0} (P Q : A → Type 0) (p : A → Bool) (xs : List A) → ((x : A) → p x ≡ true → P x → Q x)
    → AllByRecursion P xs → AllByRecursion Q (filter p xs)
all_filtered P Q p [] keeps all = tt
all_filtered P Q p (x ∷ xs) keeps all =
    on_test (λ b. AllByRecursion Q (cond b (x ∷ filter p xs) (filter p xs))) (p x)
    (λ is. (keeps x is all.0, all_filtered P Q p xs keeps all.1)) (λ _. all_filtered P Q p xs keeps all.1)

not_that : (a b : Bool) → not (a && b) ≡ true → a ≡ true → b ≡ true → ⊥
not_that true true is p q = true≢false (sym is)
not_that true false is p q = true≢false (sym q)
not_that false b is p q = true≢false (sym p)

-- the turns that are left after one was closed
listed_without : (w after : Whole) (g : Grain) (turn : ℕ) (turns : List OpenTurn)
    → ((h : Grain) (n : ℕ) (q : Request) → (h ≡ g → n ≢ turn) → turn_in (map.get w.entries h) n ≡ Some q → turn_in (map.get after.entries h) n ≡ Some q)
    → AreListed w turns → AreListed after (turns_without g turn turns)
listed_without w after g turn turns closes =
    all_filtered (IsListed w) (IsListed after) (λ t. not (is_turn g turn t)) turns (λ t is.
    closes t.grain t.request.number t.request
    (λ same number.
    not_that (grain_eq t.grain g) (t.request.number == turn) is ((grain_eq_decides t.grain g).1 same)
    (eq-eqb t.request.number turn number)))

-- ---- writers stay alone

-- where both are of one grain, both only read
abbrev MayBeTogether : Logic → OpenTurn → OpenTurn → Type 0
MayBeTogether logic t u = t.grain ≡ u.grain → (reads logic t.grain t.request ≡ true) × (reads logic u.grain u.request ≡ true)

abbrev MayBeWith : Logic → OpenTurn → List OpenTurn → Type 0
MayBeWith logic t turns = AllByRecursion (MayBeTogether logic t) turns

-- any two turns of one grain only read
abbrev AreTogether : Logic → List OpenTurn → Type 0
AreTogether logic [] = Unit {0}
AreTogether logic (t ∷ turns) = MayBeWith logic t turns × AreTogether logic turns

not_same : (logic : Logic) (t u : OpenTurn) → reads logic t.grain t.request ≡ false → ((u.grain ≡ t.grain) → reads logic t.grain t.request ≡ true) → grain_eq u.grain t.grain ≡ false
not_same logic t u writes both =
    false_from_ne_true (grain_eq u.grain t.grain) (λ same. true≢false (sym (both ((grain_eq_decides u.grain t.grain).0 same)) ∙ writes))

-- none of the turns beside one that may write is of its grain
none_beside : (logic : Logic) (t : OpenTurn) (after : List OpenTurn) → MayBeWith logic t after → reads logic t.grain t.request ≡ false → list_any (λ u. grain_eq u.grain t.grain) after ≡ false
none_beside logic t [] h writes = refl
none_beside logic t (u ∷ after) h writes = or_from (grain_eq u.grain t.grain) _ (not_same logic t u writes (λ same. (h.0 (sym same)).0)) (none_beside logic t after h.1 writes)

writer_alone : (logic : Logic) (before after : List OpenTurn) (t : OpenTurn) → AreTogether logic (before ++ t ∷ after) → reads logic t.grain t.request ≡ false → list_any (λ u. grain_eq u.grain t.grain) (before ++ after) ≡ false
writer_alone logic [] after t h writes = none_beside logic t after h.0 writes
writer_alone logic (u ∷ before) after t h writes = or_from (grain_eq u.grain t.grain) _ (not_same logic t u writes (λ same. (all_at (MayBeTogether logic u) before after t h.0 same).1)) (writer_alone logic before after t h.1 writes)

writers_alone : (logic : Logic) (turns : List OpenTurn) → AreTogether logic turns → WritersAlone logic turns
writers_alone logic turns h before after t is writes = writer_alone logic before after t (subst (AreTogether logic) is h) writes

alone_filtered : (logic : Logic) (p : OpenTurn → Bool) (turns : List OpenTurn) → AreTogether logic turns → AreTogether logic (filter p turns)
alone_filtered logic p [] h = tt
alone_filtered logic p (t ∷ turns) h =
    let P = MayBeTogether logic t in
    on_test (λ b. AreTogether logic (cond b (t ∷ filter p turns) (filter p turns))) (p t)
    (λ _. (all_filtered P P p turns (λ u is may. may) h.0, alone_filtered logic p turns h.1)) (λ _. alone_filtered logic p turns h.1)

-- a turn that may be open with each of them
alone_push : (logic : Logic) (w : Whole) (new : OpenTurn) (turns : List OpenTurn) → AreListed w turns → ((t : OpenTurn) → IsListed w t → MayBeTogether logic t new) → AreTogether logic turns → AreTogether logic (turns ++ new ∷ [])
alone_push logic w new [] listed may h = (tt, tt)
alone_push logic w new (t ∷ turns) listed may h =
    (all_append (MayBeTogether logic t) turns (new ∷ []) h.0 (may t listed.0, tt), alone_push logic w new turns listed.1 may h.1)

-- ---- one more step

-- what is known after the steps before: where the whole is, and the turns that are open
record State (logic : Logic) (setup : Setup) (before : List Step) (w : Whole) (turns : List OpenTurn) : Type 0 where
  at : whole_run logic (opening setup) before ≡ w
  listed : AreListed w turns
  alone : AreTogether logic turns

module _ (logic : Logic) (law : ReadersAskNothing logic) (setup : Setup) (before : List Step) (w : Whole) (turns : List OpenTurn) (state : State logic setup before w turns) where
  sound : IsSound w
  sound = subst IsSound state.at (run_sound logic before (opening setup) (opening_sound setup))

  part_is : (t : List ℕ) → shown_to t w ≡ machine_run logic (start_of setup t) (restricted_to t before)
  part_is t = ap (shown_to t) (sym state.at) ∙ replay_is_run logic setup t before

  fair : AllFair logic w
  fair t = subst (λ m. IsFairMachine logic m) (sym (part_is t)) (run_fair logic law (start_of setup t) (restricted_to t before) (start_fair logic setup t))

  next_at : (s : Step) → whole_run logic (opening setup) (before ++ s ∷ []) ≡ whole_after logic w s
  next_at s = whole_run-append logic (opening setup) before (s ∷ []) ∙ ap (λ x. whole_after logic x s) state.at

  -- the first that waits, in the owner's machine and in the whole
  begun_is : (g : Grain) → turn_begun logic setup before g ≡ first_waiting g (map.get w.entries g)
  begun_is g = ap (first_waiting g) (ap (λ m. map.get m.entries g) (sym (part_is g.tenant)) ∙ shown_own w g.tenant g refl)

  -- by whether the step is possible
  by_step : (s : Step) (us : List OpenTurn) → (whole_step logic w s ≡ None → State logic setup (before ++ s ∷ []) (whole_after logic w s) us)
      → ((after : Whole) → whole_step logic w s ≡ Some after → State logic setup (before ++ s ∷ []) after us)
      → State logic setup (before ++ s ∷ []) (whole_after logic w s) us
  by_step s us none some =
      on_found (λ _. State logic setup (before ++ s ∷ []) (whole_after logic w s) us) (whole_step logic w s) none
      (λ after is. subst (λ o. State logic setup (before ++ s ∷ []) (unwrap_or o w) us) (sym is) (some after is))

  still_listed : (after : Whole) (s : Step) → whole_step logic w s ≡ Some after
      → ((old new : Option Entry) → TurnsMove logic s old new → KeepsTurns old new) → AreListed after turns
  still_listed after s is keeps =
      all_weaker (IsListed w) (IsListed after) turns
      (λ t. keeps_turns logic law w after s sound fair is keeps t.grain t.request.number t.request) state.listed

  -- a step that wasn't possible
  idle_next : (s : Step) → whole_step logic w s ≡ None → State logic setup (before ++ s ∷ []) (whole_after logic w s) turns
  idle_next s none =
      let same : w ≡ whole_after logic w s = sym (ap (λ o. unwrap_or o w) none) in
      record { at = next_at s; listed = subst (λ x. AreListed x turns) same state.listed; alone = state.alone }

  -- a step that closes no turn
  keeping_next : (s : Step) → ((old new : Option Entry) → TurnsMove logic s old new → KeepsTurns old new) → State logic setup (before ++ s ∷ []) (whole_after logic w s) turns
  keeping_next s keeps = by_step s turns (idle_next s) (λ after is. record {
    at = next_at s ∙ ap (λ o. unwrap_or o w) is;
    listed = still_listed after s is keeps;
    alone = state.alone;
  })

  -- a step that closes a turn
  closing_next : (s : Step) (g : Grain) (turn : ℕ) → ((a : Option Account) → grain_of a s ≡ Some g)
      → ((old new : Option Entry) → TurnsMove logic s old new → ClosesTurn turn old new)
      → whole_step logic w s ≢ None → State logic setup (before ++ s ∷ []) (whole_after logic w s) (turns_without g turn turns)
  closing_next s g turn place closes done = by_step s (turns_without g turn turns) (λ none. absurd (done none)) (λ after is. record {
    at = next_at s ∙ ap (λ o. unwrap_or o w) is;
    listed = listed_without w after g turn turns (closes_turn logic law w after s sound fair is g turn place closes) state.listed;
    alone = alone_filtered logic _ turns state.alone;
  })

  -- a Begin that was done
  opening_next : (g : Grain) → whole_step logic w (Begin g) ≢ None → State logic setup (before ++ Begin g ∷ []) (whole_after logic w (Begin g)) (turns ++ turn_begun logic setup before g)
  opening_next g done = by_step (Begin g) (turns ++ turn_begun logic setup before g) (λ none. absurd (done none)) (λ after is.
      let opens = begin_opens logic law w after g sound fair is in
      let new : OpenTurn = record { grain = g; request = opens.first } in
      let begun : turn_begun logic setup before g ≡ new ∷ [] = begun_is g ∙ opens.waits in
      subst (λ us. State logic setup (before ++ Begin g ∷ []) after (turns ++ us)) (sym begun) (record {
        at = next_at (Begin g) ∙ ap (λ o. unwrap_or o w) is;
        listed = all_append (IsListed after) turns (new ∷ []) (still_listed after (Begin g) is (λ old other moves. moves.others)) (opens.there, tt);
        alone = alone_push logic w new turns state.listed (λ t open_turn same. together after opens t open_turn same) state.alone;
      }))
    where
      together : (after : Whole) (opens : OpensTurn logic g (map.get w.entries g) (map.get after.entries g)) (t : OpenTurn) → IsListed w t → t.grain ≡ g → (reads logic t.grain t.request ≡ true) × (reads logic g opens.first ≡ true)
      together after opens t open_turn same =
          let both = opens.together t.request.number t.request (ap (λ h. turn_in (map.get w.entries h) t.request.number) (sym same) ∙ open_turn) in
          (ap (λ h. reads logic h t.request) same ∙ both.1, both.0)

  next : (s : Step) (a : Answer) → IsAnswer logic w s a → State logic setup (before ++ marked_step s a ∷ []) (whole_after logic w (marked_step s a)) (turns_after logic setup before turns s a)
  next (Begin g) answer.Done is = opening_next g is
  next (Begin g) answer.Failed is = absurd (true≢false (sym is.0))
  next (Begin g) answer.NotNow is = idle_next (Begin g) is
  next (Store g n failed) answer.Done is = closing_next (Store g n failed) g n (λ a. refl) (λ old new moves. moves) is
  next (Store g n failed) answer.Failed is = closing_next (Store g n true) g n (λ a. refl) (λ old new moves. moves) is.1
  next (Store g n failed) answer.NotNow is = idle_next (Store g n failed) is
  next (End g n) answer.Done is = closing_next (End g n) g n (λ a. refl) (λ old new moves. moves) is
  next (End g n) answer.Failed is = absurd (true≢false (sym is.0))
  next (End g n) answer.NotNow is = idle_next (End g n) is
  next (Abandon g n) answer.Done is = closing_next (Abandon g n) g n (λ a. refl) (λ old new moves. moves) is
  next (Abandon g n) answer.Failed is = absurd (true≢false (sym is.0))
  next (Abandon g n) answer.NotNow is = idle_next (Abandon g n) is
  next s answer.Done is = keeping_next s (λ old new moves. moves)
  next s answer.Failed is = keeping_next (as_failed s) (λ old new moves. moves)
  next s answer.NotNow is = idle_next s is

-- ---- every list

exclusive_from : (logic : Logic) → ReadersAskNothing logic → (setup : Setup) (before : List Step) (w : Whole) (turns : List OpenTurn) (steps : List Step) (answers : List Answer) → State logic setup before w turns
    → AreAnswers logic w steps answers → ExclusiveFrom logic setup before turns steps answers
exclusive_from logic law setup before w turns [] answers state are = writers_alone logic turns state.alone
exclusive_from logic law setup before w turns (s ∷ steps) [] state are = writers_alone logic turns state.alone
exclusive_from logic law setup before w turns (s ∷ steps) (a ∷ answers) state are = (
  writers_alone logic turns state.alone,
  exclusive_from logic law setup (before ++ marked_step s a ∷ []) (whole_after logic w (marked_step s a)) (turns_after logic setup before turns s a) steps answers (next logic law setup before w turns state s a are.0) are.1,
)

pub runs_are_exclusive : RunsAreExclusive
runs_are_exclusive logic law setup steps answers are = exclusive_from logic law setup [] (opening setup) [] steps answers (record { at = refl; listed = tt; alone = tt }) are
