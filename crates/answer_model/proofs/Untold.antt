-- What is done for what is asked depends on no reply that was made before.
use Rattle.silo_model.proofs.Common.{if◌then◌else◌, ◌++◌, ◌==◌, ◌∙◌, ◌∷◌, ◌≡◌, Activate, Begin, Bool, Deliver, End, Entry, Grain, List}
use Rattle.silo_model.proofs.Common.{Load, Logic, None, Option, Reply, Request, Send, Some, Step, Store, Whole, [], ap, arith, eq-eqb}
use Rattle.silo_model.proofs.Common.{eqb-true, false, is_some, is_some-option_map, length, length-append, option_map, refl, sends_of, suc}
use Rattle.silo_model.proofs.Common.{true, unwrap_or, whole_run, whole_step, zero, ℕ}
use Rattle.std.specs.Prelude.{◌-◌}
use Rattle.std.specs.FinMap as map
use Rattle.silo_event.specs.Owner.{owner_of}
use Rattle.silo_model.specs.Run.{done_by, if_possible}
use Rattle.silo_model.specs.Segments.{told_before}
use Rattle.silo_model.proofs.Framed.{framed_step}
use Rattle.finite_maps.proofs.Values.{same_answer}
use Rattle.answer_model.specs.Answering.{Asked, Closing, Luck, Stepper, all_answered, answered, answering, bringing, called_grain, can}
use Rattle.answer_model.specs.Answering.{closing, delivered_bytes, deliveries, deliveries_of, delivering, ending, first_luck, given_up_if}
use Rattle.answer_model.specs.Answering.{is_accepted, later_luck, oldest_bytes, out_of_memory, raising, serving, serving_if, storage_failed}
use Rattle.answer_model.specs.Answering.{taken, too_many_wait, turn_of, turn_of_first, turning, well, whole_stepper}
use Rattle.answer_model.specs.Untold.{AnswersAsEver}

module _ (logic : Logic) (rs : List Reply) where
  abbrev by : Stepper Whole
  by = whole_stepper logic

  -- with the replies that were made before
  abbrev told : Whole → Whole
  told w = told_before rs w

  -- ---- steps

  can_told : (w : Whole) (s : Step) → can by (told w) s ≡ can by w s
  can_told w s = ap is_some (framed_step logic rs w s) ∙ is_some-option_map told (whole_step logic w s)

  or_told : (o : Option Whole) (w : Whole) → unwrap_or (option_map told o) (told w) ≡ told (unwrap_or o w)
  or_told None w = refl
  or_told (Some after) w = refl

  next_told : (w : Whole) (s : Step) → unwrap_or (whole_step logic (told w) s) (told w) ≡ told (unwrap_or (whole_step logic w s) w)
  next_told w s = ap (λ o. unwrap_or o (told w)) (framed_step logic rs w s) ∙ or_told (whole_step logic w s) w

  pub run_told : (steps : List Step) (w : Whole) → whole_run logic (told w) steps ≡ told (whole_run logic w steps)
  run_told [] w = refl
  run_told (s ∷ steps) w =
      ap (λ v. whole_run logic v steps) (next_told w s) ∙ run_told steps (unwrap_or (whole_step logic w s) w)

  same_possible : (s : Step) (o : Option Whole) → if_possible s (option_map told o) ≡ if_possible s o
  same_possible s None = refl
  same_possible s (Some w) = refl

  pub done_told : (steps : List Step) (w : Whole) → done_by (whole_step logic) (told w) steps ≡ done_by (whole_step logic) w steps
  done_told [] w = refl
  done_told (s ∷ steps) w =
      ap (λ o. if_possible s o ++ done_by (whole_step logic) (unwrap_or (whole_step logic (told w) s) (told w)) steps) (framed_step logic rs w s)
      ∙ ap (λ front. front ++ done_by (whole_step logic) (unwrap_or (whole_step logic (told w) s) (told w)) steps) (same_possible s (whole_step logic w s))
      ∙ ap (λ v. if_possible s (whole_step logic w s) ++ done_by (whole_step logic) v steps) (next_told w s)
      ∙ ap (λ rest. if_possible s (whole_step logic w s) ++ rest) (done_told steps (unwrap_or (whole_step logic w s) w))

  -- ---- one request

  module _ (w : Whole) (g : Grain) where
    raising_told : (failed : Bool) → raising by (told w) g failed ≡ raising by w g failed
    raising_told failed = ap (λ b. if b then Activate g ∷ Load g failed ∷ [] else []) (can_told w (Activate g))

    ending_told : (turn : ℕ) (failed : Bool) → ending by (told w) g turn failed ≡ ending by w g turn failed
    ending_told turn failed = ap (λ b. if b then End g turn ∷ [] else Store g turn failed ∷ []) (can_told w (End g turn))

    closing_told : (turn : ℕ) (how : Closing) → closing by (told w) g turn how ≡ closing by w g turn how
    closing_told turn well = ending_told turn false
    closing_told turn storage_failed = ending_told turn true
    closing_told turn out_of_memory = refl

  module _ (w : Whole) (g : Grain) (how : Closing) where
    first_told : (queue : List Request) → turn_of_first by (told w) g how queue ≡ turn_of_first by w g how queue
    first_told [] = refl
    first_told (first ∷ others) =
        ap (λ v. Begin g ∷ closing by v g first.number how) (run_told (Begin g ∷ []) w)
        ∙ ap (λ steps. Begin g ∷ steps) (closing_told (whole_run logic w (Begin g ∷ [])) g first.number how)

    turn_told : (found : Option Entry) → turn_of by (told w) g how found ≡ turn_of by w g how found
    turn_told None = refl
    turn_told (Some e) = first_told e.queue

    turning_told : turning by (told w) g how ≡ turning by w g how
    turning_told =
        ap (λ b. if b then turn_of by (told w) g how (map.get w.entries g) else []) (can_told w (Begin g))
        ∙ ap (λ steps. if can by w (Begin g) then steps else []) (turn_told (map.get w.entries g))

  serving_told : (w : Whole) (g : Grain) (luck : Luck) → serving by (told w) g luck ≡ serving by w g luck
  serving_told w g luck =
      let up = raising by w g luck.loading_failed in
      ap (λ steps. steps ++ turning by (whole_run logic (told w) steps) g luck.closing) (raising_told w g luck.loading_failed)
      ∙ ap (λ v. up ++ turning by v g luck.closing) (run_told up w)
      ∙ ap (λ steps. up ++ steps) (turning_told (whole_run logic w up) g luck.closing)

  -- ---- a step that may bring a request

  same_lengths : (a b : List Reply) → (length (rs ++ a) == length (rs ++ b)) ≡ (length a == length b)
  same_lengths a b =
      same_answer (length (rs ++ a) == length (rs ++ b)) (length a == length b)
      (λ h. eq-eqb (length a) (length b) (omega (arith, eqb-true (length (rs ++ a)) (length (rs ++ b)) h, length-append rs a, length-append rs b)))
      (λ h. eq-eqb (length (rs ++ a)) (length (rs ++ b)) (omega (arith, eqb-true (length a) (length b) h, length-append rs a, length-append rs b)))

  accepted_told : (before after : Whole) → is_accepted by (told before) (told after) ≡ is_accepted by before after
  accepted_told before after = same_lengths after.replies before.replies

  serving_if_told : (before after : Whole) (grain : Option Grain) (luck : Luck)
      → serving_if by (told before) (told after) grain luck ≡ serving_if by before after grain luck
  serving_if_told before after None luck = refl
  serving_if_told before after (Some g) luck =
      ap (λ b. if b then serving by (told after) g luck else []) (accepted_told before after)
      ∙ ap (λ steps. if is_accepted by before after then steps else []) (serving_told after g luck)

  bringing_told : (w : Whole) (s : Step) (grain : Option Grain) (luck : Luck) → bringing by (told w) s grain luck ≡ bringing by w s grain luck
  bringing_told w s grain luck =
      ap (λ v. s ∷ serving_if by (told w) v grain luck) (run_told (s ∷ []) w)
      ∙ ap (λ steps. s ∷ steps) (serving_if_told w (whole_run logic w (s ∷ [])) grain luck)

  -- ---- what a tenant's grains sent

  delivering_told : (w : Whole) (sends : List Send) (luck : Luck) → delivering by (told w) sends luck ≡ delivering by w sends luck
  delivering_told w [] luck = refl
  delivering_told w (oldest ∷ others) luck =
      bringing_told w (Deliver oldest.source) (Some oldest.message.target) (given_up_if (too_many_wait (oldest ∷ others)) luck)

  deliveries_told : (n room : ℕ) (w : Whole) (tenant : List ℕ) (lucks : List Luck)
      → deliveries by n room (told w) tenant lucks ≡ deliveries by n room w tenant lucks
  deliveries_told zero room w tenant lucks = refl
  deliveries_told (suc n) zero w tenant lucks = refl
  deliveries_told (suc n) (suc room) w tenant lucks =
      let sends = sends_of (map.get w.accounts tenant) in
      let left = suc room - oldest_bytes sends in
      let steps = delivering by w sends (first_luck lucks) in
      ap (λ made. made ++ deliveries by n left (whole_run logic (told w) made) tenant (later_luck lucks)) (delivering_told w sends (first_luck lucks))
      ∙ ap (λ v. steps ++ deliveries by n left v tenant (later_luck lucks)) (run_told steps w)
      ∙ ap (λ rest. steps ++ rest) (deliveries_told n left (whole_run logic w steps) tenant (later_luck lucks))

  deliveries_of_told : (n : ℕ) (w : Whole) (owner : Option (List ℕ)) (lucks : List Luck)
      → deliveries_of by n (told w) owner lucks ≡ deliveries_of by n w owner lucks
  deliveries_of_told n w None lucks = refl
  deliveries_of_told n w (Some owner) lucks = deliveries_told n delivered_bytes w owner lucks

  -- ---- all that is asked

  pub answering_told : (n : ℕ) (w : Whole) (asked : Asked) → answering by n (told w) asked ≡ answering by n w asked
  answering_told n w asked =
      let luck = first_luck asked.lucks in
      let steps = bringing by w (taken asked) (called_grain asked.step) luck in
      let later = later_luck asked.lucks in
      ap (λ made. made ++ deliveries_of by n (whole_run logic (told w) made) (owner_of asked.step) later)
      (bringing_told w (taken asked) (called_grain asked.step) luck)
      ∙ ap (λ v. steps ++ deliveries_of by n v (owner_of asked.step) later) (run_told steps w)
      ∙ ap (λ rest. steps ++ rest) (deliveries_of_told n (whole_run logic w steps) (owner_of asked.step) later)

  pub answered_told : (n : ℕ) (w : Whole) (asked : Asked) → answered by n (told w) asked ≡ told (answered by n w asked)
  answered_told n w asked =
      ap (whole_run logic (told w)) (answering_told n w asked) ∙ run_told (answering by n w asked) w

  pub all_told : (n : ℕ) (all : List Asked) (w : Whole) → all_answered by n (told w) all ≡ told (all_answered by n w all)
  all_told n [] w = refl
  all_told n (asked ∷ others) w =
      ap (λ v. all_answered by n v others) (answered_told n w asked) ∙ all_told n others (answered by n w asked)

pub answers_as_ever : AnswersAsEver
answers_as_ever logic n replies w all = all_told logic replies n all w
