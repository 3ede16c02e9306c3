-- How turns are closed that ask nothing of the storage, as steps of the machine.
use Rattle.silo_model.proofs.Common.{◌++◌, ◌∙◌, ◌≡◌, Abandon, Account, Bool, Effect, End, Entries, Entry, Err, Grain, Keep, List, Logic, Machine, NoMemory, None, Option, Outgoing, Party, Phase, Plan, Reply, Request, Some, StorageCall, ap, applied, asks_nothing, change_at, change_option, clears_row, context_at, effect_of, false, loading, machine_step, option_and_then, option_map, outcome_of, plan_of, reads_row, ready, refl, reply_to, same_Some, stays_or_goes, sym, true, waiting, writes_row, ℕ}
use Rattle.std.specs.FinMap as map
use Rattle.silo_state.proofs.Ends.{more_sent}
use Rattle.grain_logic.specs.Logic as say
use Rattle.grain_logic.specs.Finished.{turn_plan}
use Rattle.silo_event.specs.declared.opened_turn.OpenedTurn.{OpenedTurn}
use Rattle.silo_model.specs.Step.{at_turn}
use Rattle.silo_model.specs.Turns.{sent_by, ended, ended_by, abandoned}
use Rattle.silo_state.specs.Entries.{closed_entry, ClosesEntry}
use Rattle.silo_state.specs.Finds.{open_in, IsOwn, asks}
use Rattle.silo_state.specs.inside.Sends.{with_more}
use Rattle.silo_state.specs.Closings.{ClosesTold}
use Rattle.tenant_machine.specs.inside.Requests.{seen_at}

-- ---- what is done to an open turn

module _ (m : Machine) (g : Grain) (turn : ℕ) (does : Entry → Request → Option Effect) where
  pub turn_at : (e : Entry) → map.get m.entries g ≡ Some e → (r : Request) → map.get e.turns turn ≡ Some r → option_and_then (at_turn does turn) (map.get m.entries g) ≡ does e r
  turn_at e found r open_turn = ap (option_and_then (at_turn does turn)) found ∙ ap (option_and_then (does e)) open_turn

  pub no_turn : option_and_then (λ e. map.get e.turns turn) (map.get m.entries g) ≡ None → option_and_then (at_turn does turn) (map.get m.entries g) ≡ None
  no_turn none = by (map.get m.entries g) none
    where
      by : (found : Option Entry) → option_and_then (λ e. map.get e.turns turn) found ≡ None → option_and_then (at_turn does turn) found ≡ None
      by None n = refl
      by (Some e) n = ap (option_and_then (does e)) n

-- what is done only to ready entries isn't done where none is ready with that turn open
pub not_open : (m : Machine) (g : Grain) (turn : ℕ) (does : Entry → Request → Phase → Option Effect) → ((e : Entry) (r : Request) → does e r waiting ≡ None) → ((e : Entry) (r : Request) → does e r loading ≡ None)
    → option_and_then (λ e. open_in e turn e.phase) (map.get m.entries g) ≡ None → option_and_then (at_turn (λ e r. does e r e.phase) turn) (map.get m.entries g) ≡ None
not_open m g turn does waits loads none = by (map.get m.entries g) none
  where
    by_turn : (e : Entry) (phase : Phase) → ((r : Request) → does e r phase ≡ None) → (found : Option Request) → option_and_then (λ r. does e r phase) found ≡ None
    by_turn e phase not None = refl
    by_turn e phase not (Some r) = not r

    by_phase : (e : Entry) (phase : Phase) → open_in e turn phase ≡ None → option_and_then (λ r. does e r phase) (map.get e.turns turn) ≡ None
    by_phase e waiting n = by_turn e waiting (waits e) (map.get e.turns turn)
    by_phase e loading n = by_turn e loading (loads e) (map.get e.turns turn)
    by_phase e (ready state version) n = ap (option_and_then (λ r. does e r (ready state version))) n

    by : (found : Option Entry) → option_and_then (λ e. open_in e turn e.phase) found ≡ None → option_and_then (at_turn (λ e r. does e r e.phase) turn) found ≡ None
    by None n = refl
    by (Some e) n = by_phase e e.phase n

-- ---- a turn that ran out of memory

module _ (logic : Logic) (m : Machine) (g : Grain) (turn : ℕ) where
  pub abandon_not : option_and_then (λ e. map.get e.turns turn) (map.get m.entries g) ≡ None → machine_step logic m (Abandon g turn) ≡ None
  unfolding machine_step effect_of context_at
  abandon_not none = ap (option_map (applied m (Some g))) (no_turn m g turn (λ e r. Some (abandoned (seen_at m g) e r)) none)

  pub abandon_done : (new : Entries) (replies : List Reply) → ClosesTold m.entries m.replies g turn None say.same m.clock (Err NoMemory) new replies → machine_step logic m (Abandon g turn) ≡ Some (record m { entries = new; replies = replies })
  unfolding machine_step effect_of context_at applied
  abandon_done new replies t =
      ap (option_map (applied m (Some g))) (turn_at m g turn (λ e r. Some (abandoned (seen_at m g) e r)) t.closes.before t.closes.found t.closes.request t.closes.open_turn)
      ∙ (λ i. Some (record m { entries = sym t.closes.left i; replies = sym (t.told_is ∙ ap (λ s. m.replies ++ reply_to s (Err NoMemory)) t.closes.sender_is) i }))

  pub end_not : option_and_then (λ e. open_in e turn e.phase) (map.get m.entries g) ≡ None → machine_step logic m (End g turn) ≡ None
  unfolding machine_step effect_of context_at
  end_not none = ap (option_map (applied m (Some g))) (not_open m g turn (λ e r phase. ended logic (seen_at m g) g e r phase) (λ e r. refl) (λ e r. refl) none)

-- ---- a turn of an entry that is ready

module _ (logic : Logic) (m : Machine) (g : Grain) (turn : ℕ) (version : Option ℕ) (idle_after : Bool) (input : OpenedTurn) (own : IsOwn g (map.get m.entries g) turn version idle_after input) where
  abbrev pub plan : Plan
  plan = turn_plan logic input

  pub planned : plan_of logic g own.state own.request ≡ turn_plan logic input
  planned = λ i. logic.plan (sym own.is_of.kind_is i) (sym own.is_of.message_is i).method (sym own.is_of.state_is i) (sym own.is_of.message_is i).argument

  -- the entry and the request that are closed are those that were found
  module _ (phase : Option Phase) (said : Keep) (last : ℕ) (sender : Party) (new : Entries) (d : ClosesEntry m.entries g turn phase said last sender new) where
    pub same_entry : d.before ≡ own.entry
    same_entry = same_Some d.before own.entry (sym d.found ∙ own.is_open.found_is)

    pub same_request : d.request ≡ own.request
    same_request = same_Some d.request own.request (sym d.open_turn ∙ ap (λ (e : Entry). map.get e.turns turn) same_entry ∙ own.is_open.open_turn)

    pub left_own : new ≡ change_at m.entries g (stays_or_goes (closed_entry own.entry own.request phase said last))
    left_own = d.left ∙ (λ i. change_at m.entries g (stays_or_goes (closed_entry (same_entry i) (same_request i) phase said last)))

    pub sent_own : sender ≡ own.request.sender
    sent_own = d.sender_is ∙ ap (λ (r : Request). r.sender) same_request

  -- what its end does, by what its plan asks for
  ended_is : option_and_then (at_turn (λ e r. ended logic (seen_at m g) g e r e.phase) turn) (map.get m.entries g) ≡ ended_by (seen_at m g) g own.entry own.request version plan plan.storage
  ended_is =
      turn_at m g turn (λ e r. ended logic (seen_at m g) g e r e.phase) own.entry own.is_open.found_is own.request own.is_open.open_turn
      ∙ ap (ended logic (seen_at m g) g own.entry own.request) own.is_open.phase_is
      ∙ ap (λ (p : Plan). ended_by (seen_at m g) g own.entry own.request version p p.storage) planned

  -- the turn asks for the storage
  pub end_asks : asks plan.storage ≡ true → machine_step logic m (End g turn) ≡ None
  unfolding machine_step effect_of context_at
  end_asks asking = ap (option_map (applied m (Some g))) (ended_is ∙ by plan.storage asking)
    where
      by : (c : StorageCall) → asks c ≡ true → ended_by (seen_at m g) g own.entry own.request version plan c ≡ None
      by asks_nothing e = absurd cc
      by reads_row e = refl
      by writes_row e = refl
      by clears_row e = refl

  nothing_asked : (c : StorageCall) → asks c ≡ false → c ≡ asks_nothing
  nothing_asked asks_nothing e = refl
  nothing_asked reads_row e = absurd cc
  nothing_asked writes_row e = absurd cc
  nothing_asked clears_row e = absurd cc

  -- the plan's state stands, its sends go out, and its outcome is the reply
  pub end_done : (account : Option Account) (new : Entries) (replies : List Reply) → asks plan.storage ≡ false → ClosesTold m.entries m.replies g turn (Some (ready plan.state version)) plan.keep m.clock (outcome_of plan.outcome) new replies
      → account ≡ change_option m.account (with_more m.account (sent_by g plan.sends)) → machine_step logic m (End g turn) ≡ Some (record m { account = account; entries = new; replies = replies })
  unfolding machine_step effect_of context_at applied
  end_done account new replies silent t sent =
      let phase = Some (ready plan.state version) in
      ap (option_map (applied m (Some g))) (ended_is ∙ ap (ended_by (seen_at m g) g own.entry own.request version plan) (nothing_asked plan.storage silent))
      ∙ (λ i. Some (record m {
        account = sym (sent ∙ ap (change_option m.account) (sym (more_sent g m.account plan.sends))) i;
        entries = sym (left_own phase plan.keep m.clock t.sender new t.closes) i;
        replies = sym (t.told_is ∙ ap (λ s. m.replies ++ reply_to s (outcome_of plan.outcome)) (sent_own phase plan.keep m.clock t.sender new t.closes)) i;
      }))
