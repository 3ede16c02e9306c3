-- The machine of a tenant takes the same steps for what it is asked as the whole does, and each is the tenant's.
use Rattle.silo_model.proofs.Common.{if◌then◌else◌, ◌++◌, ◌==◌, ◌∙◌, ◌∷◌, ◌≡◌, Account, Activate, Begin, Bool, Deliver, End, Entry, Grain}
use Rattle.silo_model.proofs.Common.{List, Load, Logic, Machine, None, Option, Party, Reply, Request, Send, Setup, Some, Step, Store, Whole}
use Rattle.silo_model.proofs.Common.{[], ap, arith, cond, delivery_of, eq-eqb, eqb-true, false, first_from, first_target, grain_eq_decides}
use Rattle.silo_model.proofs.Common.{is_some, length, length-append, machine_run, machine_step, none-some, option_map, owner_of, refl}
use Rattle.silo_model.proofs.Common.{same_Some, sends_of, shown_to, subst, suc, sym, true, unwrap_or, whole_run, whole_step, zero, ℕ}
use Rattle.std.specs.Prelude.{◌-◌}
use Rattle.std.specs.FinMap as map
use Rattle.silo_event.specs.declared.reply.Party.TheVariants as party
use Rattle.silo_model.proofs.Contexts.{shown_account, shown_own}
use Rattle.silo_model.proofs.EffectKinds.{asks, role_of}
use Rattle.silo_model.proofs.Isolation.{owner_not_now, place_in}
use Rattle.silo_model.proofs.Journals.{adds_replies, owners_part}
use Rattle.silo_model.proofs.OwnSends.{sends_are_own}
use Rattle.silo_model.proofs.Runs.{machine_after, whole_after}
use Rattle.silo_model.proofs.SendSteps.{by_called}
use Rattle.answer_model.specs.Answering.{Closing, Luck, Stepper, bringing, can, closing, deliveries, delivering, ending, first_luck}
use Rattle.answer_model.specs.Answering.{given_up_if, is_accepted, later_luck, machine_stepper, oldest_bytes, out_of_memory, raising, run}
use Rattle.answer_model.specs.Answering.{serving, serving_if, storage_failed, too_many_wait, turn_of, turn_of_first, turning, well}
use Rattle.answer_model.specs.Answering.{whole_stepper}
use Rattle.answer_model.proofs.Brought.{Waits, accepted_waits, brings, it_waits}
use Rattle.answer_model.proofs.Owned.{AllOwned, own_run}
use Rattle.answer_model.proofs.Reached.{IsReached, run_reached, step_reached}
use Rattle.finite_maps.proofs.Values.{same_answer}
use Rattle.finite_maps.proofs.Lists.{all_append}
use Rattle.silo_model.proofs.Tests.{on_found, on_test}

-- ---- the steps of a request at an own grain

if_owned : (owner : List ℕ) (b : Bool) (steps others : List Step) → AllOwned owner steps → AllOwned owner others → AllOwned owner (if b then steps else others)
if_owned owner true steps others own more = own
if_owned owner false steps others own more = more

module _ {M : Type 0} (by : Stepper M) (m : M) (g : Grain) where
  ending_owned : (turn : ℕ) (failed : Bool) → AllOwned g.tenant (ending by m g turn failed)
  ending_owned turn failed = if_owned g.tenant (can by m (End g turn)) _ _ (refl, tt) (refl, tt)

  closing_owned : (turn : ℕ) (how : Closing) → AllOwned g.tenant (closing by m g turn how)
  closing_owned turn well = ending_owned turn false
  closing_owned turn storage_failed = ending_owned turn true
  closing_owned turn out_of_memory = (refl, tt)

  raising_owned : (failed : Bool) → AllOwned g.tenant (raising by m g failed)
  raising_owned failed = if_owned g.tenant (can by m (Activate g)) _ _ (refl, (refl, tt)) tt

module _ {M : Type 0} (by : Stepper M) (m : M) (g : Grain) (how : Closing) where
  queue_owned : (queue : List Request) → AllOwned g.tenant (turn_of_first by m g how queue)
  queue_owned [] = tt
  queue_owned (first ∷ others) = (refl, closing_owned by (run by m (Begin g ∷ [])) g first.number how)

  turn_owned : (found : Option Entry) → AllOwned g.tenant (turn_of by m g how found)
  turn_owned None = tt
  turn_owned (Some e) = queue_owned e.queue

  turning_owned : AllOwned g.tenant (turning by m g how)
  turning_owned = if_owned g.tenant (can by m (Begin g)) _ _ (turn_owned (by.entry m g)) tt

-- ---- whether a request was accepted

same_test : (a b c d : ℕ) → (a ≡ b → c ≡ d) → (c ≡ d → a ≡ b) → (a == b) ≡ (c == d)
same_test a b c d to from = same_answer (a == b) (c == d) (λ h. eq-eqb c d (to (eqb-true a b h))) (λ h. eq-eqb a b (from (eqb-true c d h)))

module _ (logic : Logic) (setup : Setup) (tenant : List ℕ) where
  abbrev of_whole : Stepper Whole
  of_whole = whole_stepper logic

  abbrev of_machine : Stepper Machine
  of_machine = machine_stepper logic

  -- the machine and the whole accept alike
  same_accepted : (w : Whole) (s : Step) → IsReached logic setup w → owner_of s ≡ Some tenant
      → is_accepted of_whole w (whole_after logic w s) ≡ is_accepted of_machine (shown_to tenant w) (machine_after logic (shown_to tenant w) s)
  same_accepted w s reached is =
      let m : Machine = shown_to tenant w in
      on_found (λ r. is_accepted of_whole w (unwrap_or r w) ≡ is_accepted of_machine m (machine_after logic m s)) (whole_step logic w s)
      (λ e.
      same_test (length w.replies) (length w.replies) (length m.replies) (length m.replies) (λ _. refl) (λ _. refl)
      ∙ ap (λ o. is_accepted of_machine m (unwrap_or o m)) (sym (owner_not_now logic w s tenant is e)))
      (λ after e.
      let adds = adds_replies logic setup reached.0 w after s reached.1 e in
      let own = adds.own_replies tenant is in
      let new : List Reply = (shown_to tenant after).replies in
      same_test (length after.replies) (length w.replies) (length new) (length m.replies)
      (no_more w.replies m.replies adds.added after.replies new adds.replies own)
      (no_more m.replies w.replies adds.added new after.replies own adds.replies)
      ∙ ap (λ o. is_accepted of_machine m (unwrap_or o m)) (sym (owners_part logic setup reached.0 w after s tenant reached.1 is e)))
    where
      no_more : (xs ys added new other : List Reply) → new ≡ xs ++ added → other ≡ ys ++ added → length new ≡ length xs → length other ≡ length ys
      no_more xs ys added new other h k same = omega (arith, ap length h, ap length k, length-append xs added, length-append ys added)

  -- ---- one request

  pub serving_owned : (w : Whole) (g : Grain) (luck : Luck) → g.tenant ≡ tenant → AllOwned tenant (serving of_whole w g luck)
  serving_owned w g luck own =
      let up = raising of_whole w g luck.loading_failed in
      subst (λ t. AllOwned t (serving of_whole w g luck)) own
      (all_append (λ s. owner_of s ≡ Some g.tenant) up (turning of_whole (whole_run logic w up) g luck.closing)
      (raising_owned of_whole w g luck.loading_failed) (turning_owned of_whole (whole_run logic w up) g luck.closing))

  -- what the tenant can do is possible in its machine where it is in the whole
  same_can : (w : Whole) (s : Step) → IsReached logic setup w → owner_of s ≡ Some tenant → can of_whole w s ≡ can of_machine (shown_to tenant w) s
  same_can w s reached is =
      on_found (λ r. is_some r ≡ is_some (machine_step logic (shown_to tenant w) s)) (whole_step logic w s)
      (λ e. sym (ap is_some (owner_not_now logic w s tenant is e)))
      (λ after e. sym (ap is_some (owners_part logic setup reached.0 w after s tenant reached.1 is e)))

  module _ (w : Whole) (g : Grain) (reached : IsReached logic setup w) (own : g.tenant ≡ tenant) where
    same_raising : (failed : Bool) → raising of_whole w g failed ≡ raising of_machine (shown_to tenant w) g failed
    same_raising failed = ap (λ b. if b then Activate g ∷ Load g failed ∷ [] else []) (same_can w (Activate g) reached (ap Some own))

    same_ending : (turn : ℕ) (failed : Bool) → ending of_whole w g turn failed ≡ ending of_machine (shown_to tenant w) g turn failed
    same_ending turn failed = ap (λ b. if b then End g turn ∷ [] else Store g turn failed ∷ []) (same_can w (End g turn) reached (ap Some own))

    same_closing : (turn : ℕ) (how : Closing) → closing of_whole w g turn how ≡ closing of_machine (shown_to tenant w) g turn how
    same_closing turn well = same_ending turn false
    same_closing turn storage_failed = same_ending turn true
    same_closing turn out_of_memory = refl

  module _ (w : Whole) (g : Grain) (how : Closing) (reached : IsReached logic setup w) (own : g.tenant ≡ tenant) where
    same_queue : (queue : List Request) → turn_of_first of_whole w g how queue ≡ turn_of_first of_machine (shown_to tenant w) g how queue
    same_queue [] = refl
    same_queue (first ∷ others) =
        ap (λ steps. Begin g ∷ steps)
        (same_closing (whole_after logic w (Begin g)) g (step_reached logic setup w (Begin g) reached) own first.number how
        ∙ ap (λ m. closing of_machine m g first.number how) (own_run logic setup w reached tenant (Begin g ∷ []) (ap Some own, tt)))

    same_turn : (found : Option Entry) → turn_of of_whole w g how found ≡ turn_of of_machine (shown_to tenant w) g how found
    same_turn None = refl
    same_turn (Some e) = same_queue e.queue

    same_turning : turning of_whole w g how ≡ turning of_machine (shown_to tenant w) g how
    same_turning =
        (λ i. if same_can w (Begin g) reached (ap Some own) i then same_turn (map.get w.entries g) i else [])
        ∙ ap (λ found. if can of_machine (shown_to tenant w) (Begin g) then turn_of of_machine (shown_to tenant w) g how found else []) (sym (shown_own w tenant g own))

  same_serving : (w : Whole) (g : Grain) (luck : Luck) → IsReached logic setup w → g.tenant ≡ tenant
      → serving of_whole w g luck ≡ serving of_machine (shown_to tenant w) g luck
  same_serving w g luck reached own =
      let up = raising of_whole w g luck.loading_failed in
      let raised : AllOwned tenant up = subst (λ t. AllOwned t up) own (raising_owned of_whole w g luck.loading_failed) in
      let next = whole_run logic w up in
      ap (λ steps. up ++ steps)
      (same_turning next g luck.closing (run_reached logic setup up w reached) own
      ∙ ap (λ m. turning of_machine m g luck.closing) (own_run logic setup w reached tenant up raised))
      ∙ ap (λ steps. steps ++ turning of_machine (machine_run logic (shown_to tenant w) steps) g luck.closing) (same_raising w g reached own luck.loading_failed)

  -- ---- a step that may bring one

  module _ (w : Whole) (s : Step) (luck : Luck) (reached : IsReached logic setup w) (is : owner_of s ≡ Some tenant) where
    abbrev after : Whole
    after = whole_after logic w s

    abbrev machines : Machine
    machines = machine_after logic (shown_to tenant w) s

    shown_after : shown_to tenant after ≡ machines
    shown_after = own_run logic setup w reached tenant (s ∷ []) (is, tt)

    abbrev pub IsOwnIfAccepted : Option Grain → Type 0
    IsOwnIfAccepted grain = (g : Grain) → grain ≡ Some g → is_accepted of_whole w after ≡ true → g.tenant ≡ tenant

    same_if : (grain : Option Grain) → IsOwnIfAccepted grain
        → (serving_if of_whole w after grain luck ≡ serving_if of_machine (shown_to tenant w) machines grain luck)
        × AllOwned tenant (serving_if of_whole w after grain luck)
    same_if None own = (refl, tt)
    same_if (Some g) own =
        let mine : Bool → List Step = λ b. cond b (serving of_machine machines g luck) [] in
        let steps : Bool → List Step = λ b. cond b (serving of_whole after g luck) [] in
        on_test (λ b. (steps b ≡ serving_if of_machine (shown_to tenant w) machines (Some g) luck) × AllOwned tenant (steps b))
        (is_accepted of_whole w after)
        (λ accepted. (
          same_serving after g luck (step_reached logic setup w s reached) (own g refl accepted)
              ∙ ap (λ m. serving of_machine m g luck) shown_after
              ∙ ap mine (sym (sym (same_accepted w s reached is) ∙ accepted)),
          serving_owned after g luck (own g refl accepted),
        ))
        (λ refused. (ap mine (sym (sym (same_accepted w s reached is) ∙ refused)), tt))

    pub same_bringing : (grain : Option Grain) → IsOwnIfAccepted grain
        → (bringing of_whole w s grain luck ≡ bringing of_machine (shown_to tenant w) s grain luck) × AllOwned tenant (bringing of_whole w s grain luck)
    same_bringing grain own =
        let same = same_if grain own in
        (ap (λ steps. s ∷ steps) same.0, (is, same.1))

    -- a request that is accepted is at a grain of its own tenant
    pub own_if_accepted : (p : Party) (grain : Option Grain) → role_of s ≡ asks p → place_in w tenant s ≡ grain → (whole_step logic w s ≡ None → ⊥)
        → IsOwnIfAccepted grain
    own_if_accepted p grain role place done g at =
        on_found (λ r. is_accepted of_whole w (unwrap_or r w) ≡ true → g.tenant ≡ tenant) (whole_step logic w s) (λ e. absurd (done e))
        (λ x e h.
        at_waiting x (place_in w tenant s) (place ∙ at)
        (accepted_waits logic w x tenant p (place_in w tenant s) (brings logic w x s tenant p is role e) h))
      where
        at_waiting : (x : Whole) (o : Option Grain) → o ≡ Some g → Waits w x tenant p o → g.tenant ≡ tenant
        at_waiting x _ e (it_waits h q own sender entries replies) = sym (ap (λ (y : Grain). y.tenant) (same_Some h g e)) ∙ own

  -- ---- what the tenant's grains sent

  first_is : (oldest : Send) (others : List Send) → first_from oldest.source (oldest ∷ others) ≡ Some (oldest, others)
  first_is oldest others =
      ap (λ b. if b then Some (oldest, others) else option_map (λ found. (found.0, oldest ∷ found.1)) (first_from oldest.source others))
      ((grain_eq_decides oldest.source oldest.source).1 refl)

  abbrev IsOldest : Whole → Send → List Send → Type 0
  IsOldest w oldest others = sends_of (map.get w.accounts tenant) ≡ oldest ∷ others

  module _ (oldest : Send) (others : List Send) where
    -- the account that has it, where it is found first
    pub account_of : (w : Whole) → IsOldest w oldest others
        → (a : Account) × (map.get w.accounts tenant ≡ Some a) × (first_from oldest.source a.sends ≡ Some (oldest, others))
    account_of w =
        on_found
        (λ o. sends_of o ≡ oldest ∷ others → (a : Account) × (o ≡ Some a) × (first_from oldest.source a.sends ≡ Some (oldest, others)))
        (map.get w.accounts tenant) (λ _ is. absurd (let e = is in cc))
        (λ a _ is. (a, refl, ap (first_from oldest.source) is ∙ first_is oldest others))

    -- the oldest was sent by a grain of the tenant
    pub source_own : (w : Whole) → IsReached logic setup w → IsOldest w oldest others → oldest.source.tenant ≡ tenant
    source_own w reached is =
        let known = account_of w is in
        sends_are_own logic setup reached.0 w reached.1 tenant oldest.source
        (ap (λ o. is_some (delivery_of oldest.source o)) known.1 ∙ ap (λ o. is_some (option_map (λ found. Deliver oldest.source) o)) known.2)

    -- what its delivery asks is its target
    pub target_is : (w : Whole) → IsOldest w oldest others → place_in w tenant (Deliver oldest.source) ≡ Some oldest.message.target
    target_is w is =
        let known = account_of w is in
        ap (λ o. first_target o oldest.source) known.1 ∙ ap (option_map (λ found. found.0.message.target)) known.2

    -- it can be delivered
    pub is_delivered : (w : Whole) → oldest.source.tenant ≡ tenant → IsOldest w oldest others → whole_step logic w (Deliver oldest.source) ≡ None → ⊥
    is_delivered w own is none =
        let known = account_of w is in
        none-some _
        (sym none ∙ by_called logic w oldest.source known.0 (ap (map.get w.accounts) own ∙ known.1) oldest others known.2 _ refl)

  same_delivering : (w : Whole) (sends : List Send) (luck : Luck) → IsReached logic setup w → sends_of (map.get w.accounts tenant) ≡ sends
      → (delivering of_whole w sends luck ≡ delivering of_machine (shown_to tenant w) sends luck) × AllOwned tenant (delivering of_whole w sends luck)
  same_delivering w [] luck reached is = (refl, tt)
  same_delivering w (oldest ∷ others) luck reached is =
      let s = Deliver oldest.source in
      let own = source_own oldest others w reached is in
      let how = given_up_if (too_many_wait (oldest ∷ others)) luck in
      same_bringing w s how reached (ap Some own) (Some oldest.message.target)
      (own_if_accepted w s how reached (ap Some own) (party.Grain oldest.source) (Some oldest.message.target) refl (target_is oldest others w is) (is_delivered oldest others w own is))

  pub same_deliveries : (n room : ℕ) (w : Whole) (lucks : List Luck) → IsReached logic setup w
      → (deliveries of_whole n room w tenant lucks ≡ deliveries of_machine n room (shown_to tenant w) tenant lucks)
      × AllOwned tenant (deliveries of_whole n room w tenant lucks)
  same_deliveries zero room w lucks reached = (refl, tt)
  same_deliveries (suc n) zero w lucks reached = (refl, tt)
  same_deliveries (suc n) (suc room) w lucks reached =
      let sends = sends_of (map.get w.accounts tenant) in
      let luck = first_luck lucks in
      let steps = delivering of_whole w sends luck in
      let first = same_delivering w sends luck reached refl in
      let next = whole_run logic w steps in
      let left = suc room - oldest_bytes sends in
      let rest = same_deliveries n left next (later_luck lucks) (run_reached logic setup steps w reached) in (
        (λ i. first.0 i ++ rest.0 i) ∙ the_machines w n room lucks steps first.0 first.1 reached,
        all_append (λ s. owner_of s ≡ Some tenant) steps (deliveries of_whole n left next tenant (later_luck lucks)) first.1 rest.1,
      )
    where
      the_machines : (w : Whole) (n room : ℕ) (lucks : List Luck) (steps : List Step)
          → steps ≡ delivering of_machine (shown_to tenant w) (sends_of (map.get w.accounts tenant)) (first_luck lucks) → AllOwned tenant steps → IsReached logic setup w
          → delivering of_machine (shown_to tenant w) (sends_of (map.get w.accounts tenant)) (first_luck lucks)
          ++ deliveries of_machine n (suc room - oldest_bytes (sends_of (map.get w.accounts tenant))) (shown_to tenant (whole_run logic w steps)) tenant (later_luck lucks)
          ≡ deliveries of_machine (suc n) (suc room) (shown_to tenant w) tenant lucks
      the_machines w n room lucks steps same own reached =
          let m = shown_to tenant w in
          let sends = sends_of (map.get w.accounts tenant) in
          ap (λ k. delivering of_machine m sends (first_luck lucks) ++ deliveries of_machine n (suc room - oldest_bytes sends) k tenant (later_luck lucks))
          (own_run logic setup w reached tenant steps own ∙ ap (machine_run logic m) same)
          ∙ ap
          (λ a.
          delivering of_machine m (sends_of a) (first_luck lucks)
          ++ deliveries of_machine n (suc room - oldest_bytes (sends_of a)) (machine_run logic m (delivering of_machine m (sends_of a) (first_luck lucks))) tenant (later_luck lucks))
          (sym (shown_account w tenant))
