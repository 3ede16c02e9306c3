-- What closing a turn by its own plan comes to, as a step of the whole.
use Rattle.std.proofs.Common.{◌≡◌, ℕ, Bool, true, false, List, [], ◌∷◌, ◌++◌, Option, Some, None, refl, ap, sym, subst, ◌∙◌}
use Rattle.std.specs.Prelude.{Result, Ok, map as map_list, option_and_then, option_map, unwrap_or}
use Rattle.std.specs.FinMap as map
use Rattle.std.specs.FinMap.{FinMap}
use Rattle.std.proofs.lemmas.Option.{same_Some}
use Rattle.grain_id.specs.Names.{Grain, text_cmp}
use Rattle.request_codec.specs.Call.{Call}
use Rattle.request_codec.specs.Tree.{Tree}
use Rattle.tenant_accounts.specs.Sends as kept
use Rattle.tenant_accounts.specs.Sends.{with_sent}
use Rattle.activation_directory.specs.declared.activation.Phase.TheVariants.{Ready}
use Rattle.grain_logic.specs.Laws.{IsKeep, IsLawful}
use Rattle.grain_logic.specs.Logic.{Logic, Plan, Keep, Outgoing, StorageCall, asks_nothing, reads_row, writes_row, clears_row}
use Rattle.grain_logic.specs.Finished as finished
use Rattle.grain_logic.specs.Finished.{planned_shown, turn_plan}
use Rattle.grain_logic.specs.Planned.{keep_of}
use Rattle.silo_event.specs.declared.opened_turn.OpenedTurn.{OpenedTurn}
use Rattle.grain_logic.specs.declared.turn.OwnedPlan.{OwnedPlan}
use Rattle.silo_event.specs.declared.fault.Fault.{Fault}
use Rattle.silo_event.specs.declared.reply.Party.{Party}
use Rattle.silo_event.specs.declared.reply.Reply.{Reply}
use Rattle.silo_event.specs.declared.step.Answer.TheVariants.{Done}
use Rattle.silo_event.specs.declared.step.Step.TheVariants.{End}
use Rattle.silo_model.specs.Machine.{Account, Entry, Entries, Phase, Send, waiting, loading, ready}
use Rattle.silo_model.specs.Effect.{change_at}
use Rattle.silo_model.specs.Calls.{reply_to}
use Rattle.silo_model.specs.Turns.{plan_of, sent_by, sent_from, with_sends, outcome_of, stays_or_goes}
use Rattle.silo_model.specs.Whole.{whole_step}
use Rattle.silo_model.proofs.TurnSteps.{end_absent, end_closed, end_waiting, end_loading, end_reads, end_writes, end_clears, end_turn}
use Rattle.silo_state.specs.inside.Activations.{Activations}
use Rattle.silo_state.specs.inside.Held.{Held}
use Rattle.silo_state.specs.inside.Notes.{none_waits}
use Rattle.silo_state.specs.Moves.{Moves}
use Rattle.silo_state.specs.inside.Sends.{with_more}
use Rattle.silo_state.specs.Entries.{ClosesEntry, closed_entry}
use Rattle.silo_state.specs.Shown.{phase_of}
use Rattle.silo_state.specs.Closings.{ClosesTold}
use Rattle.silo_state.specs.Finds.{open_in, IsOwn, IsOwnPlan, asks}
use Rattle.silo_state.proofs.Steps.{times_of}

-- what a turn sends comes to the account in one way
pub more_sent : (g : Grain) (account : Option Account) (outgoing : List Outgoing) → with_sends g account outgoing ≡ with_more account (sent_by g outgoing)
more_sent g account [] = refl
more_sent g None (o ∷ outgoing) = refl
more_sent g (Some a) (o ∷ outgoing) = refl

-- and by the accounts' own words
module _ (accounts : FinMap text_cmp Account) (g : Grain) where
  same_sends : (sends : List (Grain × Call)) → kept.sent_by g sends ≡ sent_by g (map_list finished.sent sends)
  same_sends [] = refl
  same_sends (s ∷ sends) = ap (λ rest. sent_from g (finished.sent s) ∷ rest) (same_sends sends)

  as_change : (t : List ℕ) (found : Option Account) (sends : List Send) → with_sent accounts t found sends ≡ change_at accounts t (with_more found sends)
  as_change t found [] = refl
  as_change t None (s ∷ sends) = refl
  as_change t (Some a) (s ∷ sends) = refl

  pub sent_each : (t : List ℕ) (sends : List (Grain × Call)) → with_sent accounts t (map.get accounts t) (kept.sent_by g sends) ≡ change_at accounts t (with_more (map.get accounts t) (sent_by g (map_list finished.sent sends)))
  sent_each t sends = as_change t (map.get accounts t) (kept.sent_by g sends) ∙ ap (λ more. change_at accounts t (with_more (map.get accounts t) more)) (same_sends sends)

-- whether no request waits is known of the turn that is closed
pub waits_known : (g : Grain) (found : Option Entry) (turn : ℕ) (version : Option ℕ) (idle_after : Bool) (input : OpenedTurn) → IsOwn g found turn version idle_after input → (e : Entry) → found ≡ Some e → idle_after ≡ none_waits e
waits_known g found turn version idle_after input own e is = own.idle_after_is ∙ ap none_waits (same_Some own.entry e (sym own.is_open.found_is ∙ is))

-- a turn that keeps the state leaves the phase as it is
closes_ready : (entries : Entries) (told : List Reply) (g : Grain) (turn : ℕ) (version : Option ℕ) (idle_after : Bool) (input : OpenedTurn) → IsOwn g (map.get entries g) turn version idle_after input
    → (next : Option Tree) (said : Keep) (last : ℕ) (outcome : Result Tree Fault) (new : Entries) (replies : List Reply)
    → ClosesTold entries told g turn (option_map phase_of (option_map (λ state. Ready state version) next)) said last outcome new replies
    → ClosesTold entries told g turn (Some (ready (unwrap_or next input.state) version)) said last outcome new replies
closes_ready entries told g turn version idle_after input own (Some state) said last outcome new replies t = t
closes_ready entries told g turn version idle_after input own None said last outcome new replies t =
    let d = t.closes in
    let entry_is = same_Some d.before own.entry (sym d.found ∙ own.is_open.found_is) in
    let phase_is = ap (λ (e : Entry). e.phase) entry_is ∙ own.is_open.phase_is ∙ ap (λ state. ready state version) (sym own.is_of.state_is) in
    record {
      sender = t.sender;
      closes = record {
        before = d.before;
        request = d.request;
        found = d.found;
        open_turn = d.open_turn;
        sender_is = d.sender_is;
        left = d.left ∙ ap (λ phase. change_at entries g (stays_or_goes (closed_entry d.before d.request (Some phase) said last))) phase_is;
      };
      told_is = t.told_is;
    }

-- what is closed by a turn's own plan in bytes is closed by the logic's plan
pub plan_closes : (logic : Logic) (entries : Entries) (told : List Reply) (g : Grain) (turn : ℕ) (version : Option ℕ) (idle_after : Bool) (made : OwnedPlan) (r : IsOwnPlan logic g (map.get entries g) turn version idle_after made)
    (last : ℕ) (new : Entries) (replies : List Reply)
    → ClosesTold entries told g turn (option_map phase_of (option_map (λ state. Ready state version) made.state)) (keep_of made.keep) last (outcome_of made.outcome) new replies
    → ClosesTold entries told g turn (Some (ready (turn_plan logic r.input).state version)) (turn_plan logic r.input).keep last (outcome_of (turn_plan logic r.input).outcome) new replies
plan_closes logic entries told g turn version idle_after made r last new replies t =
    subst (λ (p : Plan). ClosesTold entries told g turn (Some (ready p.state version)) p.keep last (outcome_of p.outcome) new replies) r.plan_is
    (closes_ready entries told g turn version idle_after r.input r.own made.state (keep_of made.keep) last (outcome_of made.outcome) new replies t)

-- a turn's own plan may say of the activation what it says
pub plan_in_range : (logic : Logic) → IsLawful logic → (input : OpenedTurn) (made : OwnedPlan) → planned_shown input.state made ≡ turn_plan logic input → IsKeep (keep_of made.keep)
plan_in_range logic law input made is =
    subst IsKeep (sym (ap (λ (p : Plan). p.keep) is)) (law.stays_in_range input.grain.kind input.message.method input.state input.message.argument)

-- no such turn is open
pub end_none : (logic : Logic) (h : Held) (g : Grain) (turn : ℕ) → option_and_then (λ e. open_in e turn e.phase) (map.get h.whole.entries g) ≡ None → whole_step logic h.whole (End g turn) ≡ None
end_none logic h g turn none = by (map.get h.whole.entries g) refl none
  where
    by_phase : (e : Entry) → map.get h.whole.entries g ≡ Some e → (phase : Phase) → e.phase ≡ phase → open_in e turn phase ≡ None → whole_step logic h.whole (End g turn) ≡ None
    by_phase e found waiting is none = end_waiting logic h.whole g turn e found is
    by_phase e found loading is none = end_loading logic h.whole g turn e found is
    by_phase e found (ready state version) is none = end_closed logic h.whole g turn e found none

    by : (found : Option Entry) → map.get h.whole.entries g ≡ found → option_and_then (λ e. open_in e turn e.phase) found ≡ None → whole_step logic h.whole (End g turn) ≡ None
    by None is none = end_absent logic h.whole g turn is
    by (Some e) is none = by_phase e is e.phase refl none

module _ (logic : Logic) (h : Held) (g : Grain) (turn : ℕ) (version : Option ℕ) (idle_after : Bool) (input : OpenedTurn) (own : IsOwn g (map.get h.whole.entries g) turn version idle_after input) where
  pub planned : plan_of logic g own.state own.request ≡ turn_plan logic input
  planned = λ i. logic.plan (sym own.is_of.kind_is i) (sym own.is_of.message_is i).method (sym own.is_of.state_is i) (sym own.is_of.message_is i).argument

  -- the turn asks for the storage
  pub end_asks : asks (turn_plan logic input).storage ≡ true → whole_step logic h.whole (End g turn) ≡ None
  end_asks = by (turn_plan logic input).storage refl
    where
      by : (c : StorageCall) → (turn_plan logic input).storage ≡ c → asks c ≡ true → whole_step logic h.whole (End g turn) ≡ None
      by asks_nothing is e = absurd cc
      by reads_row is e = end_reads logic h.whole g turn own.entry own.is_open.found_is own.request own.is_open.open_turn own.state version own.is_open.phase_is (turn_plan logic input) planned is
      by writes_row is e = end_writes logic h.whole g turn own.entry own.is_open.found_is own.request own.is_open.open_turn own.state version own.is_open.phase_is (turn_plan logic input) planned is
      by clears_row is e = end_clears logic h.whole g turn own.entry own.is_open.found_is own.request own.is_open.open_turn own.state version own.is_open.phase_is (turn_plan logic input) planned is

  nothing_asked : (c : StorageCall) → asks c ≡ false → c ≡ asks_nothing
  nothing_asked asks_nothing e = refl
  nothing_asked reads_row e = absurd cc
  nothing_asked writes_row e = absurd cc
  nothing_asked clears_row e = absurd cc

  -- the entry and the request that are closed are those that were found
  module _ (phase : Option Phase) (said : Keep) (last : ℕ) (sender : Party) (new : Entries) (d : ClosesEntry h.whole.entries g turn phase said last sender new) where
    pub same_entry : d.before ≡ own.entry
    same_entry = same_Some d.before own.entry (sym d.found ∙ own.is_open.found_is)

    pub same_request : d.request ≡ own.request
    same_request = same_Some d.request own.request (sym d.open_turn ∙ ap (λ (e : Entry). map.get e.turns turn) same_entry ∙ own.is_open.open_turn)

    pub same_phase : d.before.phase ≡ ready own.state version
    same_phase = ap (λ (e : Entry). e.phase) same_entry ∙ own.is_open.phase_is

    pub same_plan : plan_of logic g own.state d.request ≡ turn_plan logic input
    same_plan = ap (plan_of logic g own.state) same_request ∙ planned

  -- the plan's state stands, its sends go out, and its outcome is the reply
  pub end_moves : (accounts : FinMap text_cmp Account) (new : Activations) (replies : List Reply) → asks (turn_plan logic input).storage ≡ false → new.times ≡ times_of h
      → ClosesTold h.whole.entries h.whole.replies g turn (Some (ready (turn_plan logic input).state version)) (turn_plan logic input).keep h.whole.clock (outcome_of (turn_plan logic input).outcome) new.entries replies
      → accounts ≡ change_at h.whole.accounts g.tenant (with_more (map.get h.whole.accounts g.tenant) (sent_by g (turn_plan logic input).sends))
      → Moves logic h (End g turn) (Ok Done) (record h { whole = record h.whole { accounts = accounts; clock = new.times.clock; age = new.times.age; ages = new.times.ages; entries = new.entries; replies = replies } })
  end_moves accounts new replies silent aged t sent =
      let plan = turn_plan logic input in
      let phase = Some (ready plan.state version) in
      let d = t.closes in (
        end_turn logic h.whole g turn d.before d.found d.request d.open_turn own.state version (same_phase phase plan.keep h.whole.clock t.sender new.entries d) plan (same_plan phase plan.keep h.whole.clock t.sender new.entries d) (nothing_asked plan.storage silent)
            ∙ (λ i. Some (record h.whole {
              accounts = sym (sent ∙ ap (change_at h.whole.accounts g.tenant) (sym (more_sent g (map.get h.whole.accounts g.tenant) plan.sends))) i;
              clock = (sym aged i).clock;
              age = (sym aged i).age;
              ages = (sym aged i).ages;
              entries = sym d.left i;
              replies = sym (t.told_is ∙ ap (λ s. h.whole.replies ++ reply_to s (outcome_of plan.outcome)) d.sender_is) i;
            })),
        refl,
      )
