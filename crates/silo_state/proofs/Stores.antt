-- What closing a turn that asks for the storage comes to, as a step of the whole.
use Rattle.std.proofs.Common.{◌≡◌, ℕ, suc, arith, Bool, true, false, List, [], ◌∷◌, ◌++◌, length, ◌==◌, Option, Some, None, refl, ap, sym, ◌∙◌, subst}
use Rattle.std.specs.Prelude.{Result, Ok, Err, option_and_then, if◌then◌else◌}
use Rattle.std.specs.FinMap as map
use Rattle.grain_id.specs.Names.{Grain}
use Rattle.grain_id.proofs.Order.{grain_cmp_total, grain_cmp_exact}
use Rattle.finite_maps.proofs.Maps as maps
use Rattle.request_codec.specs.Tree.{Tree}
use Rattle.grain_storage.specs.declared.row.Row.{Row}
use Rattle.grain_storage.specs.declared.fault.StoreFault.{StoreFault}
use Rattle.grain_storage.specs.declared.fault.StoreFault.TheVariants as storage
use Rattle.grain_storage.specs.Rows.{Rows, RowFault, stale, spent, written, cleared}
use Rattle.grain_logic.specs.Logic.{Logic, Plan, same, StorageCall, asks_nothing, reads_row, writes_row, clears_row}
use Rattle.grain_logic.specs.Finished.{turn_plan}
use Rattle.silo_event.specs.declared.opened_turn.OpenedTurn.{OpenedTurn}
use Rattle.silo_event.specs.declared.fault.Fault.{Fault}
use Rattle.silo_event.specs.declared.fault.Fault.TheVariants.{StorageFailed, StateChanged, VersionsSpent}
use Rattle.silo_event.specs.declared.reply.Party.{Party}
use Rattle.silo_event.specs.declared.reply.Reply.{Reply}
use Rattle.silo_event.specs.declared.step.Answer.{Answer}
use Rattle.silo_event.specs.declared.step.StepFault.{StepFault}
use Rattle.silo_event.specs.declared.step.Step.TheVariants.{Store}
use Rattle.silo_model.specs.Machine.{Entry, Entries, Request, Phase, waiting, loading, ready}
use Rattle.silo_model.specs.Effect.{Change, change_at}
use Rattle.silo_model.specs.Calls.{reply_to}
use Rattle.silo_model.specs.Turns.{plan_of, ends_activation, row_changed, stored_by}
use Rattle.silo_model.specs.Stores.{row_written, row_cleared, at_row, version_value}
use Rattle.silo_model.specs.Whole.{Whole, whole_step}
use Rattle.silo_model.proofs.Leaving.{busy_stays}
use Rattle.silo_model.proofs.Stored.{stores_at_one_row}
use Rattle.silo_model.proofs.TurnSteps.{left_at, closed_at, seen_at, store_absent, store_closed, store_waiting, store_loading, store_not, store_failed, store_read, store_changed, store_spent, store_stale}
use Rattle.silo_state.specs.inside.Activations.{Activations, Times}
use Rattle.silo_state.specs.inside.Held.{Held}
use Rattle.silo_state.specs.Moves.{Moves}
use Rattle.silo_state.specs.Entries.{closed_entry, ClosesEntry}
use Rattle.silo_state.specs.Finds.{open_in, IsOwn, asks}
use Rattle.silo_state.specs.Closings.{ClosesTold, ClosesBy}
use Rattle.silo_state.specs.inside.Storing.{read_again, with_state, given, Gives, GivesMarked}
use Rattle.silo_state.specs.declared.storing.StorageAnswer.{StorageAnswer}
use Rattle.silo_state.proofs.Steps.{times_of}
use Rattle.silo_state.proofs.Ends.{planned, same_entry, same_phase, same_plan}
use Rattle.silo_state.proofs.AtRows.{same_Ok, done_at, refused_at}
use Rattle.silo_state.proofs.InUse.{some_waits}

-- no such turn is open
pub store_none : (logic : Logic) (h : Held) (g : Grain) (turn : ℕ) (failed : Bool) → option_and_then (λ e. open_in e turn e.phase) (map.get h.whole.entries g) ≡ None → whole_step logic h.whole (Store g turn failed) ≡ None
store_none logic h g turn failed none = by (map.get h.whole.entries g) refl none
  where
    by_phase : (e : Entry) → map.get h.whole.entries g ≡ Some e → (phase : Phase) → e.phase ≡ phase → open_in e turn phase ≡ None → whole_step logic h.whole (Store g turn failed) ≡ None
    by_phase e found waiting is none = store_waiting logic h.whole g turn e found failed is
    by_phase e found loading is none = store_loading logic h.whole g turn e found failed is
    by_phase e found (ready state version) is none = store_closed logic h.whole g turn e found failed none

    by : (found : Option Entry) → map.get h.whole.entries g ≡ found → option_and_then (λ e. open_in e turn e.phase) found ≡ None → whole_step logic h.whole (Store g turn failed) ≡ None
    by None is none = store_absent logic h.whole g turn failed is
    by (Some e) is none = by_phase e is e.phase refl none

-- a change gives the state that its grain has then
pub with_state_done : (state : Tree) (r : Result (Option ℕ × Rows) RowFault) (s : Tree) (version : Option ℕ) (after : Rows) → with_state state r ≡ Ok ((s, version), after) → (r ≡ Ok (version, after)) × (s ≡ state)
with_state_done state (Ok changed) s version after e =
    let parts = same_Ok (with_state state (Ok changed)) ((state, changed.0), changed.1) ((s, version), after) refl e in
    (λ i. Ok ((parts i).0.1, (parts i).1), ap (λ p. p.0.0) (sym parts))
with_state_done state (Err why) s version after e = absurd cc

pub with_state_refused : (state : Tree) (r : Result (Option ℕ × Rows) RowFault) (why : RowFault) → with_state state r ≡ Err why → r ≡ Err why
with_state_refused state (Ok changed) why e = absurd cc
with_state_refused state (Err other) why e = cc (e)

module _ (logic : Logic) (h : Held) (g : Grain) (turn : ℕ) (version : Option ℕ) (idle_after : Bool) (input : OpenedTurn) (own : IsOwn g (map.get h.whole.entries g) turn version idle_after input) where
  -- the turn asks nothing of the storage
  pub store_silent : (failed : Bool) → asks (turn_plan logic input).storage ≡ false → whole_step logic h.whole (Store g turn failed) ≡ None
  store_silent failed silent = by (turn_plan logic input).storage refl silent
    where
      by : (c : StorageCall) → (turn_plan logic input).storage ≡ c → asks c ≡ false → whole_step logic h.whole (Store g turn failed) ≡ None
      by asks_nothing is e = store_not logic h.whole g turn own.entry own.is_open.found_is own.request own.is_open.open_turn own.state version own.is_open.phase_is (turn_plan logic input) (planned logic h g turn version idle_after input own) failed is
      by reads_row is e = absurd cc
      by writes_row is e = absurd cc
      by clears_row is e = absurd cc

  -- the activation ends: it goes if nothing waits, and otherwise waits
  module _ (last : ℕ) (still : last ≡ own.entry.last) (sender : Party) (between : Entries) (d : ClosesEntry h.whole.entries g turn (Some waiting) same last sender between) where
    ends_by : (queue : List Request) → change_at h.whole.entries g (ends_activation d.before d.request queue)
        ≡ (if length queue == 0 then map.remove (map.insert h.whole.entries g (closed_entry d.before d.request (Some waiting) same d.before.last)) g else map.insert h.whole.entries g (closed_entry d.before d.request (Some waiting) same d.before.last))
    ends_by [] = sym (maps.remove-insert grain_cmp_total grain_cmp_exact h.whole.entries g (closed_entry d.before d.request (Some waiting) same d.before.last))
    ends_by (first ∷ others) =
        ap (λ b. if b then map.remove (map.insert h.whole.entries g (closed_entry d.before d.request (Some waiting) same d.before.last)) g else map.insert h.whole.entries g (closed_entry d.before d.request (Some waiting) same d.before.last))
        (sym (some_waits (suc (length others)) (omega arith)))

    -- it isn't ready, so it doesn't go because it rests
    between_is : between ≡ map.insert h.whole.entries g (closed_entry d.before d.request (Some waiting) same last)
    between_is = d.left ∙ ap (change_at h.whole.entries g) (busy_stays (closed_entry d.before d.request (Some waiting) same last) refl)

    was_entry : d.before ≡ own.entry
    was_entry = same_entry logic h g turn version idle_after input own (Some waiting) same last sender between d

    idle_by : idle_after ≡ (length d.before.queue == 0)
    idle_by = own.idle_after_is ∙ ap (λ (e : Entry). length e.queue == 0) (sym was_entry)

    ends_is : change_at h.whole.entries g (ends_activation d.before d.request d.before.queue) ≡ (if idle_after then map.remove between g else between)
    ends_is =
        ends_by d.before.queue
        ∙ (λ i. if sym idle_by i
        then map.remove ((ap (λ n. map.insert h.whole.entries g (closed_entry d.before d.request (Some waiting) same n)) (ap (λ (e : Entry). e.last) was_entry ∙ sym still) ∙ sym between_is) i) g
        else (ap (λ n. map.insert h.whole.entries g (closed_entry d.before d.request (Some waiting) same n)) (ap (λ (e : Entry). e.last) was_entry ∙ sym still) ∙ sym between_is) i)

  -- ---- the step, by what the storage gives

  abbrev plan : Plan
  plan = turn_plan logic input

  -- the whole with new entries and rows, in which the sender is told
  abbrev told_whole : Entries → Rows → Party → Result Tree Fault → Whole
  told_whole entries rows sender outcome = record h.whole { entries = entries; rows = rows; replies = h.whole.replies ++ reply_to sender outcome }

  abbrev stores : Bool → Whole → Type 0
  stores failed after = whole_step logic h.whole (Store g turn failed) ≡ Some after

  -- the entry is kept but for its turn
  module _ (sender : Party) (new : Entries) (d : ClosesEntry h.whole.entries g turn None same h.whole.clock sender new) where
    kept_ready : d.before.phase ≡ ready own.state version
    kept_ready = same_phase logic h g turn version idle_after input own None same h.whole.clock sender new d

    kept_planned : plan_of logic g own.state d.request ≡ plan
    kept_planned = same_plan logic h g turn version idle_after input own None same h.whole.clock sender new d

    kept_is : (outcome : Result Tree Fault) → told_whole (closed_at h.whole g d.before d.request own.state version same) h.whole.rows d.request.sender outcome ≡ told_whole new h.whole.rows sender outcome
    kept_is outcome = λ i.
        told_whole ((ap (λ phase. left_at h.whole g (record d.before { phase = phase; turns = map.remove d.before.turns d.request.number; last = h.whole.clock })) (sym kept_ready) ∙ sym d.left) i) h.whole.rows (sym d.sender_is i) outcome

    -- the storage failed
    failed_step : asks plan.storage ≡ true → stores true (told_whole new h.whole.rows sender (Err StorageFailed))
    failed_step asking = by plan.storage refl asking ∙ ap Some (kept_is (Err StorageFailed))
      where
        by : (c : StorageCall) → plan.storage ≡ c → asks c ≡ true → stores true (told_whole (closed_at h.whole g d.before d.request own.state version same) h.whole.rows d.request.sender (Err StorageFailed))
        by asks_nothing is e = absurd cc
        by reads_row is e = store_failed logic h.whole g turn d.before d.found d.request d.open_turn own.state version kept_ready plan kept_planned reads_row _ is refl
        by writes_row is e = store_failed logic h.whole g turn d.before d.found d.request d.open_turn own.state version kept_ready plan kept_planned writes_row _ is refl
        by clears_row is e = store_failed logic h.whole g turn d.before d.found d.request d.open_turn own.state version kept_ready plan kept_planned clears_row _ is refl

  -- the row is read again
  read_step : plan.storage ≡ reads_row → (state : Tree) (at : Option ℕ) (rows : Rows) → read_again logic h.whole.rows g ≡ ((state, at), rows)
      → (sender : Party) (new : Entries) → ClosesEntry h.whole.entries g turn (Some (ready state at)) same h.whole.clock sender new → stores false (told_whole new rows sender (Ok (version_value at)))
  read_step asking state at rows parts sender new d =
      let phase = Some (ready state at) in
      store_read logic h.whole g turn d.before d.found d.request d.open_turn own.state version (same_phase logic h g turn version idle_after input own phase same h.whole.clock sender new d) plan (same_plan logic h g turn version idle_after input own phase same h.whole.clock sender new d) asking
      ∙ (λ i. Some (told_whole (closed_at h.whole g d.before d.request (parts i).0.0 (parts i).0.1 same) (parts i).1 (sym d.sender_is i) (Ok (version_value (parts i).0.1))))
      ∙ ap (λ es. Some (told_whole es rows sender (Ok (version_value at)))) (sym d.left)

  -- a write and a clearing differ in the state that the grain has after them
  module _ (storage : StorageCall) (asking : plan.storage ≡ storage) (state : Tree) (one : Result (Option ℕ × Change Row) RowFault) (all : Result (Option ℕ × Rows) RowFault) (agrees : all ≡ at_row h.whole.rows g one)
      (changes : (e : Entry) (request : Request) → stored_by logic (seen_at h.whole g) g e request own.state version storage ≡ Some (row_changed (seen_at h.whole g) g e request own.state version state one)) where
    -- the row was changed
    changed_step : (new_state : Tree) (at : Option ℕ) (rows : Rows) → with_state state all ≡ Ok ((new_state, at), rows)
        → (sender : Party) (new : Entries) → ClosesEntry h.whole.entries g turn (Some (ready new_state at)) same h.whole.clock sender new → stores false (told_whole new rows sender (Ok (version_value at)))
    changed_step new_state at rows gives sender new d =
        let phase = Some (ready new_state at) in
        let made = with_state_done state all new_state at rows gives in
        let done = done_at h.whole.rows g one at rows (sym agrees ∙ made.0) in
        store_changed logic h.whole g turn d.before d.found d.request d.open_turn own.state version (same_phase logic h g turn version idle_after input own phase same h.whole.clock sender new d) plan (same_plan logic h g turn version idle_after input own phase same h.whole.clock sender new d)
        storage asking state one (changes d.before d.request) at done.row done.answer
        ∙ (λ i. Some (told_whole (closed_at h.whole g d.before d.request (sym made.1 i) at same) (done.rows_are i) (sym d.sender_is i) (Ok (version_value at))))
        ∙ ap (λ es. Some (told_whole es rows sender (Ok (version_value at)))) (sym d.left)

    -- it has no version left
    spent_step : with_state state all ≡ Err spent → (sender : Party) (new : Entries) → ClosesEntry h.whole.entries g turn None same h.whole.clock sender new → stores false (told_whole new h.whole.rows sender (Err (VersionsSpent g)))
    spent_step gives sender new d =
        store_spent logic h.whole g turn d.before d.found d.request d.open_turn own.state version (kept_ready sender new d) plan (kept_planned sender new d)
        storage asking state one (changes d.before d.request) (refused_at h.whole.rows g one spent (sym agrees ∙ with_state_refused state all spent gives))
        ∙ ap Some (kept_is sender new d (Err (VersionsSpent g)))

    -- it has another version than the grain's state stands on
    stale_step : (found : Option ℕ) → with_state state all ≡ Err (stale found) → (last : ℕ) → last ≡ own.entry.last → (sender : Party) (between new : Entries) → ClosesEntry h.whole.entries g turn (Some waiting) same last sender between
        → new ≡ (if idle_after then map.remove between g else between) → stores false (told_whole new h.whole.rows sender (Err (StateChanged g)))
    stale_step found gives last still sender between new d left =
        store_stale logic h.whole g turn d.before d.found d.request d.open_turn own.state version (same_phase logic h g turn version idle_after input own (Some waiting) same last sender between d) plan (same_plan logic h g turn version idle_after input own (Some waiting) same last sender between d)
        storage asking state one (changes d.before d.request) found (refused_at h.whole.rows g one (stale found) (sym agrees ∙ with_state_refused state all (stale found) gives))
        ∙ (λ i. Some (told_whole ((ends_is last still sender between d ∙ sym left) i) h.whole.rows (sym d.sender_is i) (Err (StateChanged g))))

  -- what is given is of the turn's own state
  own_given : (call : StorageCall) → given logic h.whole.rows g input.state version call ≡ given logic h.whole.rows g own.state version call
  own_given call = ap (λ t. given logic h.whole.rows g t version call) own.is_of.state_is

  given_step : (call : StorageCall) → plan.storage ≡ call → asks call ≡ true → (state : Tree) (at : Option ℕ) (rows : Rows) → given logic h.whole.rows g own.state version call ≡ Ok ((state, at), rows)
      → (sender : Party) (new : Entries) → ClosesEntry h.whole.entries g turn (Some (ready state at)) same h.whole.clock sender new → stores false (told_whole new rows sender (Ok (version_value at)))
  given_step asks_nothing is asking state at rows gives sender new d = absurd cc
  given_step reads_row is asking state at rows gives sender new d =
      read_step is state at rows (same_Ok (given logic h.whole.rows g own.state version reads_row) (read_again logic h.whole.rows g) ((state, at), rows) refl gives) sender new d
  given_step writes_row is asking state at rows gives sender new d =
      changed_step writes_row is own.state (row_written version (map.get h.whole.rows g) own.state) (written h.whole.rows g version own.state) (stores_at_one_row.writes h.whole.rows g version own.state) (λ e request. refl) state at rows gives sender new d
  given_step clears_row is asking state at rows gives sender new d =
      changed_step clears_row is (logic.empty g.kind) (row_cleared version (map.get h.whole.rows g)) (cleared h.whole.rows g version) (stores_at_one_row.clears h.whole.rows g version) (λ e request. refl) state at rows gives sender new d

  refused_spent : (call : StorageCall) → plan.storage ≡ call → asks call ≡ true → given logic h.whole.rows g own.state version call ≡ Err spent
      → (sender : Party) (new : Entries) → ClosesEntry h.whole.entries g turn None same h.whole.clock sender new → stores false (told_whole new h.whole.rows sender (Err (VersionsSpent g)))
  refused_spent asks_nothing is asking gives sender new d = absurd cc
  refused_spent reads_row is asking gives sender new d = absurd cc
  refused_spent writes_row is asking gives sender new d =
      spent_step writes_row is own.state (row_written version (map.get h.whole.rows g) own.state) (written h.whole.rows g version own.state) (stores_at_one_row.writes h.whole.rows g version own.state) (λ e request. refl) gives sender new d
  refused_spent clears_row is asking gives sender new d =
      spent_step clears_row is (logic.empty g.kind) (row_cleared version (map.get h.whole.rows g)) (cleared h.whole.rows g version) (stores_at_one_row.clears h.whole.rows g version) (λ e request. refl) gives sender new d

  refused_stale : (call : StorageCall) → plan.storage ≡ call → asks call ≡ true → (found : Option ℕ) → given logic h.whole.rows g own.state version call ≡ Err (stale found)
      → (last : ℕ) → last ≡ own.entry.last → (sender : Party) (between new : Entries) → ClosesEntry h.whole.entries g turn (Some waiting) same last sender between
      → new ≡ (if idle_after then map.remove between g else between) → stores false (told_whole new h.whole.rows sender (Err (StateChanged g)))
  refused_stale asks_nothing is asking found gives last still sender between new d left = absurd cc
  refused_stale reads_row is asking found gives last still sender between new d left = absurd cc
  refused_stale writes_row is asking found gives last still sender between new d left =
      stale_step writes_row is own.state (row_written version (map.get h.whole.rows g) own.state) (written h.whole.rows g version own.state) (stores_at_one_row.writes h.whole.rows g version own.state) (λ e request. refl) found gives last still sender between new d left
  refused_stale clears_row is asking found gives last still sender between new d left =
      stale_step clears_row is (logic.empty g.kind) (row_cleared version (map.get h.whole.rows g)) (cleared h.whole.rows g version) (stores_at_one_row.clears h.whole.rows g version) (λ e request. refl) found gives last still sender between new d left

  -- ---- what a call comes to

  -- the state with other activations, other rows, replies and failures
  abbrev pub left : Activations → Rows → List Reply → ℕ → Held
  left c rows replies count = record { whole = record h.whole { clock = c.times.clock; age = c.times.age; ages = c.times.ages; entries = c.entries; rows = rows; replies = replies }; failures = count }

  -- the step's parts, put together
  put_together : (failed : Bool) (entries : Entries) (rows : Rows) (sender : Party) (outcome : Result Tree Fault) → stores failed (told_whole entries rows sender outcome)
      → (ages : Times) → ages ≡ times_of h → (at : Rows) → at ≡ rows → (replies : List Reply) → replies ≡ h.whole.replies ++ reply_to sender outcome → stores failed (record h.whole { clock = ages.clock; age = ages.age; ages = ages.ages; entries = entries; rows = at; replies = replies })
  put_together failed entries rows sender outcome step ages aged at are replies told = step ∙ (λ i. Some (record h.whole { clock = (sym aged i).clock; age = (sym aged i).age; ages = (sym aged i).ages; entries = entries; rows = sym are i; replies = sym told i }))

  module _ (call : StorageCall) (is : plan.storage ≡ call) (asking : asks call ≡ true) (new : Activations) (aged : new.times ≡ times_of h) (last : ℕ) (still : last ≡ own.entry.last) where
    failed_moves : (replies : List Reply) → ClosesTold h.whole.entries h.whole.replies g turn None same h.whole.clock (Err StorageFailed) new.entries replies → (rows : Rows) → rows ≡ h.whole.rows
        → stores true (record h.whole { clock = new.times.clock; age = new.times.age; ages = new.times.ages; entries = new.entries; rows = rows; replies = replies })
    failed_moves replies d rows are =
        put_together true new.entries h.whole.rows d.sender (Err StorageFailed) (failed_step d.sender new.entries d.closes (ap asks is ∙ asking)) new.times aged rows are replies d.told_is

    answer_moves : (r : Result StorageAnswer StoreFault) (rows : Rows) (count : ℕ) → Gives (given logic h.whole.rows g input.state version call) h.whole.rows h.failures r rows count
        → (result : Result Answer StepFault) (replies : List Reply) → ClosesBy h.whole.entries h.whole.replies g turn idle_after h.whole.clock last false r result new.entries replies
        → Moves logic h (Store g turn false) result (left new rows replies count)
    answer_moves (Ok s) rows count gives result replies d =
        let step = given_step call is asking s.state s.version rows (sym (own_given call) ∙ gives.0) d.1.sender new.entries d.1.closes in
        subst (λ x. Moves logic h (Store g turn false) x (left new rows replies count)) (sym d.0)
        (put_together false new.entries rows d.1.sender (Ok (version_value s.version)) step new.times aged rows refl replies (d.1.told_is ∙ ap (λ t. h.whole.replies ++ reply_to d.1.sender (Ok t)) gives.1), gives.2)
    answer_moves (Err storage.Failed) rows count gives result replies d =
        subst (λ x. Moves logic h (Store g turn false) x (left new rows replies count)) (sym d.0) (refl, failed_moves replies d.1 rows gives.0, gives.1)
    answer_moves (Err (storage.Stale found)) rows count gives result replies d =
        let step = refused_stale call is asking found (sym (own_given call) ∙ gives.0) last still d.1.sender d.1.between new.entries d.1.closes d.1.left in
        subst (λ x. Moves logic h (Store g turn false) x (left new rows replies count)) (sym d.0)
        (put_together false new.entries h.whole.rows d.1.sender (Err (StateChanged g)) step new.times aged rows gives.1 replies d.1.told_is, gives.2)
    answer_moves (Err storage.Spent) rows count gives result replies d =
        let step = refused_spent call is asking (sym (own_given call) ∙ gives.0) d.1.sender new.entries d.1.closes in
        subst (λ x. Moves logic h (Store g turn false) x (left new rows replies count)) (sym d.0)
        (put_together false new.entries h.whole.rows d.1.sender (Err (VersionsSpent g)) step new.times aged rows gives.1 replies d.1.told_is, gives.2)
    answer_moves (Err storage.Memory) rows count gives result replies d =
        subst (λ x. Moves logic h (Store g turn false) x (left new rows replies count)) (sym d.0)
        (λ i. record { whole = record h.whole { clock = (aged i).clock; age = (aged i).age; ages = (aged i).ages; entries = d.1 i; rows = gives.0 i; replies = d.2 i }; failures = gives.1 i })

    pub stored_moves : (failed : Bool) (r : Result StorageAnswer StoreFault) (rows : Rows) (count : ℕ) → GivesMarked failed (given logic h.whole.rows g input.state version call) h.whole.rows h.failures r rows count
        → (result : Result Answer StepFault) (replies : List Reply) → ClosesBy h.whole.entries h.whole.replies g turn idle_after h.whole.clock last failed r result new.entries replies
        → Moves logic h (Store g turn failed) result (left new rows replies count)
    stored_moves true r rows count gives result replies closes =
        let d = subst (λ x. ClosesBy h.whole.entries h.whole.replies g turn idle_after h.whole.clock last true x result new.entries replies) gives.0 closes in
        subst (λ x. Moves logic h (Store g turn true) x (left new rows replies count)) (sym d.0) (failed_moves replies d.1 rows gives.1, gives.2)
    stored_moves false r rows count gives result replies closes = answer_moves r rows count gives result replies closes
