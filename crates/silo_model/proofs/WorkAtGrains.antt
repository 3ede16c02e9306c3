-- What there is to do at a grain, and where there is nothing.
use Rattle.silo_model.proofs.Common.{◌∙◌, ◌∷◌, ◌≡◌, Account, Activate, Begin, Bool, Context, Deliver, Entry, Grain, List, Load, Logic, None}
use Rattle.silo_model.proofs.Common.{Option, Phase, Request, Some, Step, Tree, Whole, [], activated, ap, cond, context_of, delivery_of}
use Rattle.silo_model.proofs.Common.{effect_of, false, first_from, grain_of, loaded, loading, may_open, none-some, none_from_option_map}
use Rattle.silo_model.proofs.Common.{on_entry, opened, opened_if_ready, option_and_then, option_map, owner_of, ready, refl, same_Some}
use Rattle.silo_model.proofs.Common.{subst, sym, true, waiting, whole_step, ℕ}
use Rattle.std.specs.FinMap as map
use Rattle.finite_maps.proofs.Options.{none_from_cond}
use Rattle.silo_model.proofs.Contexts.{step_at_own}
use Rattle.silo_model.proofs.Tests.{on_found, on_test}
use Rattle.silo_model.proofs.EntrySteps.{activate_waiting, begin_first, load_loading}
use Rattle.silo_model.proofs.SendSteps.{by_called, deliver_nothing, deliver_unknown}
use Rattle.silo_model.specs.Todo.{IsTodo, WorkIsDone, begin_at, is_work, work_by, work_on}

module _ (logic : Logic) (w : Whole) (g : Grain) where
  -- ---- something is to do

  module _ (s : Step) where
    -- such a step that is done
    done_by : (after : Whole) (r : Step) → is_work r ≡ true → whole_step logic w r ≡ Some after → Some r ≡ Some s → IsTodo logic w (Some s)
    done_by after r work step h =
        subst (λ x. IsTodo logic w (Some x)) (same_Some r s h) (work, λ none. none-some after (sym none ∙ step))

    begin_done : (e : Entry) (state : Tree) (version : Option ℕ) → map.get w.entries g ≡ Some e → e.phase ≡ ready state version → (queue : List Request) → e.queue ≡ queue → begin_at logic g e queue ≡ Some s → IsTodo logic w (Some s)
    begin_done e state version found phase [] is = λ h. absurd (none-some s h)
    begin_done e state version found phase (first ∷ others) is =
        on_test (λ b. cond b (Some (Begin g)) None ≡ Some s → IsTodo logic w (Some s)) (may_open logic g e first)
        (λ may. done_by _ (Begin g) refl (begin_first logic w g e found state version first others phase is may)) (λ _ h. absurd (none-some s h))

    phase_done : (e : Entry) → map.get w.entries g ≡ Some e → (p : Phase) → e.phase ≡ p → work_by logic g e p ≡ Some s → IsTodo logic w (Some s)
    phase_done e found waiting is = done_by _ (Activate g) refl (activate_waiting logic w g e found is)
    phase_done e found loading is = done_by _ (Load g false) refl (load_loading logic w g e found is)
    phase_done e found (ready state version) is = begin_done e state version found is e.queue refl

    entry_done : work_on logic g (map.get w.entries g) ≡ Some s → IsTodo logic w (Some s)
    entry_done =
        on_found (λ found. work_on logic g found ≡ Some s → IsTodo logic w (Some s)) (map.get w.entries g)
        (λ _ h. absurd (none-some s h)) (λ e is. phase_done e is e.phase refl)

    sent_done : (a : Account) → map.get w.accounts g.tenant ≡ Some a → delivery_of g (Some a) ≡ Some s → IsTodo logic w (Some s)
    sent_done a known =
        on_found (λ found. option_map (λ f. Deliver g) found ≡ Some s → IsTodo logic w (Some s)) (first_from g a.sends)
        (λ _ h. absurd (none-some s h)) (λ found first. done_by _ (Deliver g) refl (by_called logic w g a known found.0 found.1 first _ refl))

    delivery_done : delivery_of g (map.get w.accounts g.tenant) ≡ Some s → IsTodo logic w (Some s)
    delivery_done =
        on_found (λ account. delivery_of g account ≡ Some s → IsTodo logic w (Some s)) (map.get w.accounts g.tenant)
        (λ _ h. absurd (none-some s h)) sent_done

  -- ---- nothing is to do

  abbrev NoneOf : Type 0
  NoneOf = (whole_step logic w (Activate g) ≡ None) × ((failed : Bool) → failed ≡ false → whole_step logic w (Load g failed) ≡ None) × (whole_step logic w (Begin g) ≡ None)

  abbrev seen : Context
  seen = context_of w g.tenant g

  queue_none : (e : Entry) (queue : List Request) → begin_at logic g e queue ≡ None → opened logic g e queue ≡ None
  queue_none e [] h = refl
  queue_none e (first ∷ others) h =
      ap (λ b. cond b (Some (on_entry (record e { queue = others; turns = map.insert e.turns first.number first }))) None)
      (none_from_cond (may_open logic g e first) (Begin g) None h).0

  abbrev NoneBy : Bool → Entry → Phase → Type 0
  NoneBy failed e p = (activated e p ≡ None) × (loaded logic seen g failed e p ≡ None) × (opened_if_ready logic g e p ≡ None)

  phase_none : (failed : Bool) (e : Entry) (p : Phase) → work_by logic g e p ≡ None → NoneBy failed e p
  phase_none failed e waiting h = absurd (none-some (Activate g) (sym h))
  phase_none failed e loading h = absurd (none-some (Load g false) (sym h))
  phase_none failed e (ready state version) h = (refl, refl, queue_none e e.queue h)

  abbrev NoneAt : Bool → Option Entry → Type 0
  NoneAt failed found =
      (option_and_then (λ e. activated e e.phase) found ≡ None)
      × (option_and_then (λ e. loaded logic seen g failed e e.phase) found ≡ None)
      × (option_and_then (λ e. opened_if_ready logic g e e.phase) found ≡ None)

  entry_none : (failed : Bool) (found : Option Entry) → work_on logic g found ≡ None → NoneAt failed found
  entry_none failed None h = (refl, refl, refl)
  entry_none failed (Some e) h = phase_none failed e e.phase h

  not_now : (s : Step) → owner_of s ≡ Some g.tenant → grain_of (map.get w.accounts g.tenant) s ≡ Some g → effect_of logic seen s ≡ None
      → whole_step logic w s ≡ None
  not_now s owner place does = step_at_own logic w s g.tenant g None owner place refl does

  -- so a candidate of which this is None may be left out
  pub nothing_at_entry : work_on logic g (map.get w.entries g) ≡ None → NoneOf
  unfolding effect_of
  nothing_at_entry h =
      let none : (failed : Bool) → NoneAt failed (map.get w.entries g) = λ failed. entry_none failed (map.get w.entries g) h in (
        not_now (Activate g) refl refl (none false).0,
        λ failed _. not_now (Load g failed) refl refl (none failed).1,
        not_now (Begin g) refl refl (none false).2,
      )

  pub nothing_to_deliver : delivery_of g (map.get w.accounts g.tenant) ≡ None → whole_step logic w (Deliver g) ≡ None
  nothing_to_deliver =
      on_found (λ account. delivery_of g account ≡ None → whole_step logic w (Deliver g) ≡ None) (map.get w.accounts g.tenant)
      (λ known _. deliver_unknown logic w g known)
      (λ a known h. deliver_nothing logic w g a known (none_from_option_map (λ f. Deliver g) (first_from g a.sends) h))

pub work_is_done : WorkIsDone
work_is_done = record {
  entries = entry_done;
  senders = delivery_done;
}
