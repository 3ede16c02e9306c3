-- How turns are closed that ask for the storage, as steps of the machine.
use Rattle.silo_model.proofs.Common.{[], ◌++◌, ◌==◌, ◌∙◌, ◌∷◌, ◌≡◌, Bool, Change, Effect, Entries, Entry, Err, Fault, Grain, List, Logic, Machine, None, Ok, Option, Party, Phase, Plan, Reply, Request, Result, Row, RowFault, Rows, Some, StateChanged, StorageCall, StorageFailed, Store, Tree, VersionsSpent, ap, applied, arith, asks_nothing, change_at, clears_row, closed, context_at, effect_of, ends_activation, false, grain_cmp_exact, grain_cmp_total, if◌then◌else◌, keep, length, machine_step, option_and_then, option_map, reads_row, ready, refl, reply_to, row_changed, row_written, spent, stale, stays_or_goes, stored, stored_by, subst, suc, sym, true, version_value, waiting, writes_row, ℕ}
use Rattle.std.specs.FinMap as map
use Rattle.silo_state.proofs.Stores.{with_state_done, with_state_refused}
use Rattle.finite_maps.proofs.Maps as maps
use Rattle.grain_storage.specs.declared.fault.StoreFault.{StoreFault}
use Rattle.grain_storage.specs.declared.fault.StoreFault.TheVariants as storage
use Rattle.grain_storage.specs.Rows.{written, cleared}
use Rattle.grain_logic.specs.Logic as say
use Rattle.silo_event.specs.declared.opened_turn.OpenedTurn.{OpenedTurn}
use Rattle.silo_model.specs.Stores.{row_cleared, at_row}
use Rattle.silo_model.proofs.Leaving.{busy_stays}
use Rattle.silo_model.proofs.Stored.{stores_at_one_row}
use Rattle.silo_state.specs.Entries.{closed_entry, ClosesEntry}
use Rattle.silo_state.specs.Finds.{open_in, IsOwn, asks}
use Rattle.silo_state.specs.inside.Storing.{read_again, with_state, given, Gives, GivesMarked}
use Rattle.silo_state.specs.declared.storing.StorageAnswer.{StorageAnswer}
use Rattle.silo_state.proofs.AtRows.{same_Ok, done_at, refused_at}
use Rattle.silo_state.proofs.InUse.{some_waits}
use Rattle.silo_state.specs.Closings.{ClosesTold}
use Rattle.tenant_machine.specs.inside.Closings.{ClosesBy}
use Rattle.tenant_machine.specs.Machines.{StepAnswers}
use Rattle.tenant_machine.specs.inside.Requests.{seen_at}
use Rattle.tenant_machine.proofs.Ends.{plan, turn_at, not_open, planned, left_own, sent_own}

-- no such turn is open
pub store_not : (logic : Logic) (m : Machine) (g : Grain) (turn : ℕ) (failed : Bool) → option_and_then (λ e. open_in e turn e.phase) (map.get m.entries g) ≡ None → machine_step logic m (Store g turn failed) ≡ None
unfolding machine_step effect_of context_at
store_not logic m g turn failed none = ap (option_map (applied m (Some g))) (not_open m g turn (λ e r phase. stored logic (seen_at m g) g failed e r phase) (λ e r. refl) (λ e r. refl) none)

module _ (logic : Logic) (m : Machine) (g : Grain) (turn : ℕ) (version : Option ℕ) (idle_after : Bool) (input : OpenedTurn) (own : IsOwn g (map.get m.entries g) turn version idle_after input) where
  abbrev asked : StorageCall
  asked = (plan logic m g turn version idle_after input own).storage

  -- what the storage is asked for, by an entry in the turn's own state
  abbrev stored_as : StorageCall → Option Effect
  stored_as c = stored_by logic (seen_at m g) g own.entry own.request own.state version c

  -- that the storage failed
  abbrev failing : Effect
  failing = closed (seen_at m g) own.entry own.request own.state version say.same keep (Err StorageFailed)

  store_is : (failed : Bool) → machine_step logic m (Store g turn failed) ≡ option_map (applied m (Some g)) (option_map (λ answer. if failed then failing else answer) (stored_as asked))
  unfolding machine_step effect_of context_at
  store_is failed =
      ap (option_map (applied m (Some g)))
      (turn_at m g turn (λ e r. stored logic (seen_at m g) g failed e r e.phase) own.entry own.is_open.found_is own.request own.is_open.open_turn
      ∙ ap (stored logic (seen_at m g) g failed own.entry own.request) own.is_open.phase_is
      ∙ ap (λ (p : Plan). option_map (λ answer. if failed then failing else answer) (stored_as p.storage)) (planned logic m g turn version idle_after input own))

  -- the turn asks nothing of the storage
  pub store_silent : (failed : Bool) → asks asked ≡ false → machine_step logic m (Store g turn failed) ≡ None
  store_silent failed silent = store_is failed ∙ by asked silent
    where
      by : (c : StorageCall) → asks c ≡ false → option_map (applied m (Some g)) (option_map (λ answer. if failed then failing else answer) (stored_as c)) ≡ None
      by asks_nothing e = refl
      by reads_row e = absurd cc
      by writes_row e = absurd cc
      by clears_row e = absurd cc

  -- the machine with other entries and rows, in which the turn's sender is told
  abbrev told_machine : Entries → Rows → Result Tree Fault → Machine
  told_machine entries rows outcome = record m { entries = entries; rows = rows; replies = m.replies ++ reply_to own.request.sender outcome }

  -- the entries with the turn closed
  abbrev without_it : Option Phase → Entries
  without_it phase = change_at m.entries g (stays_or_goes (closed_entry own.entry own.request phase say.same m.clock))

  kept_ready : without_it (Some (ready own.state version)) ≡ without_it None
  kept_ready = ap (λ p. without_it (Some p)) (sym own.is_open.phase_is)

  failing_is : applied m (Some g) failing ≡ told_machine (without_it None) m.rows (Err StorageFailed)
  unfolding applied
  failing_is = ap (λ entries. told_machine entries m.rows (Err StorageFailed)) kept_ready

  -- the step is marked as one whose storage call failed
  store_marked : asks asked ≡ true → machine_step logic m (Store g turn true) ≡ Some (told_machine (without_it None) m.rows (Err StorageFailed))
  store_marked asking = store_is true ∙ by asked asking ∙ ap Some failing_is
    where
      by : (c : StorageCall) → asks c ≡ true → option_map (applied m (Some g)) (option_map (λ answer. failing) (stored_as c)) ≡ Some (applied m (Some g) failing)
      by asks_nothing e = absurd cc
      by reads_row e = refl
      by writes_row e = refl
      by clears_row e = refl

  store_plain : (c : StorageCall) → asked ≡ c → machine_step logic m (Store g turn false) ≡ option_map (applied m (Some g)) (option_map (λ answer. answer) (stored_as c))
  store_plain c is = store_is false ∙ ap (λ x. option_map (applied m (Some g)) (option_map (λ (answer : Effect). answer) (stored_as x))) is

  -- ---- the step, by what the storage gives

  -- a change of the row, after which the entry has this state
  module _ (state : Tree) (one : Result (Option ℕ × Change Row) RowFault) (all : Result (Option ℕ × Rows) RowFault) (same : all ≡ at_row m.rows g one) where
    abbrev change : Effect
    change = row_changed (seen_at m g) g own.entry own.request own.state version state one

    changed_is : (new_state : Tree) (at : Option ℕ) (rows : Rows) → with_state state all ≡ Ok ((new_state, at), rows) → applied m (Some g) change ≡ told_machine (without_it (Some (ready new_state at))) rows (Ok (version_value at))
    unfolding applied
    changed_is new_state at rows gives =
        let made = with_state_done state all new_state at rows gives in
        let done = done_at m.rows g one at rows (sym same ∙ made.0) in
        ap (λ r. applied m (Some g) (row_changed (seen_at m g) g own.entry own.request own.state version state r)) done.answer
        ∙ (λ i. told_machine (without_it (Some (ready (sym made.1 i) at))) (done.rows_are i) (Ok (version_value at)))

    spent_is : with_state state all ≡ Err spent → applied m (Some g) change ≡ told_machine (without_it None) m.rows (Err (VersionsSpent g))
    unfolding applied
    spent_is gives =
        ap (λ r. applied m (Some g) (row_changed (seen_at m g) g own.entry own.request own.state version state r)) (refused_at m.rows g one spent (sym same ∙ with_state_refused state all spent gives))
        ∙ ap (λ entries. told_machine entries m.rows (Err (VersionsSpent g))) kept_ready

    stale_is : (found : Option ℕ) → with_state state all ≡ Err (stale found) → applied m (Some g) change ≡ told_machine (change_at m.entries g (ends_activation own.entry own.request own.entry.queue)) m.rows (Err (StateChanged g))
    unfolding applied
    stale_is found gives =
        ap (λ r. applied m (Some g) (row_changed (seen_at m g) g own.entry own.request own.state version state r)) (refused_at m.rows g one (stale found) (sym same ∙ with_state_refused state all (stale found) gives))

  -- what is given is of the turn's own state
  own_given : (c : StorageCall) → given logic m.rows g input.state version c ≡ given logic m.rows g own.state version c
  own_given c = ap (λ t. given logic m.rows g t version c) own.is_of.state_is

  abbrev steps_to : Machine → Type 0
  steps_to new = machine_step logic m (Store g turn false) ≡ Some new

  read_is : (state : Tree) (at : Option ℕ) (rows : Rows) → read_again logic m.rows g ≡ ((state, at), rows)
      → applied m (Some g) (closed (seen_at m g) own.entry own.request (read_again logic m.rows g).0.0 (read_again logic m.rows g).0.1 say.same keep (Ok (version_value (read_again logic m.rows g).0.1)))
      ≡ told_machine (without_it (Some (ready state at))) rows (Ok (version_value at))
  unfolding applied
  read_is state at rows parts = λ i. told_machine (without_it (Some (ready (parts i).0.0 (parts i).0.1))) (parts i).1 (Ok (version_value (parts i).0.1))

  given_step : (c : StorageCall) → asked ≡ c → asks c ≡ true → (state : Tree) (at : Option ℕ) (rows : Rows) → given logic m.rows g own.state version c ≡ Ok ((state, at), rows)
      → steps_to (told_machine (without_it (Some (ready state at))) rows (Ok (version_value at)))
  given_step asks_nothing is asking state at rows gives = absurd cc
  given_step reads_row is asking state at rows gives =
      store_plain reads_row is ∙ ap Some (read_is state at rows (same_Ok (given logic m.rows g own.state version reads_row) (read_again logic m.rows g) ((state, at), rows) refl gives))
  given_step writes_row is asking state at rows gives =
      store_plain writes_row is
      ∙ ap Some (changed_is own.state (row_written version (map.get m.rows g) own.state) (written m.rows g version own.state) (stores_at_one_row.writes m.rows g version own.state) state at rows gives)
  given_step clears_row is asking state at rows gives =
      store_plain clears_row is
      ∙ ap Some (changed_is (logic.empty g.kind) (row_cleared version (map.get m.rows g)) (cleared m.rows g version) (stores_at_one_row.clears m.rows g version) state at rows gives)

  spent_step : (c : StorageCall) → asked ≡ c → asks c ≡ true → given logic m.rows g own.state version c ≡ Err spent → steps_to (told_machine (without_it None) m.rows (Err (VersionsSpent g)))
  spent_step asks_nothing is asking gives = absurd cc
  spent_step reads_row is asking gives = absurd cc
  spent_step writes_row is asking gives =
      store_plain writes_row is
      ∙ ap Some (spent_is own.state (row_written version (map.get m.rows g) own.state) (written m.rows g version own.state) (stores_at_one_row.writes m.rows g version own.state) gives)
  spent_step clears_row is asking gives =
      store_plain clears_row is
      ∙ ap Some (spent_is (logic.empty g.kind) (row_cleared version (map.get m.rows g)) (cleared m.rows g version) (stores_at_one_row.clears m.rows g version) gives)

  stale_step : (c : StorageCall) → asked ≡ c → asks c ≡ true → (found : Option ℕ) → given logic m.rows g own.state version c ≡ Err (stale found)
      → steps_to (told_machine (change_at m.entries g (ends_activation own.entry own.request own.entry.queue)) m.rows (Err (StateChanged g)))
  stale_step asks_nothing is asking found gives = absurd cc
  stale_step reads_row is asking found gives = absurd cc
  stale_step writes_row is asking found gives =
      store_plain writes_row is
      ∙ ap Some (stale_is own.state (row_written version (map.get m.rows g) own.state) (written m.rows g version own.state) (stores_at_one_row.writes m.rows g version own.state) found gives)
  stale_step clears_row is asking found gives =
      store_plain clears_row is
      ∙ ap Some (stale_is (logic.empty g.kind) (row_cleared version (map.get m.rows g)) (cleared m.rows g version) (stores_at_one_row.clears m.rows g version) found gives)

  -- ---- the entries, by how the turn was closed

  -- the activation ends: it goes if nothing waits, and otherwise waits
  module _ (last : ℕ) (still : last ≡ own.entry.last) (sender : Party) (between : Entries) (d : ClosesEntry m.entries g turn (Some waiting) say.same last sender between) where
    abbrev ended_entry : Entry
    ended_entry = closed_entry own.entry own.request (Some waiting) say.same own.entry.last

    ends_by : (queue : List Request) → change_at m.entries g (ends_activation own.entry own.request queue)
        ≡ (if length queue == 0 then map.remove (map.insert m.entries g ended_entry) g else map.insert m.entries g ended_entry)
    ends_by [] = sym (maps.remove-insert grain_cmp_total grain_cmp_exact m.entries g ended_entry)
    ends_by (first ∷ others) =
        ap (λ b. if b then map.remove (map.insert m.entries g ended_entry) g else map.insert m.entries g ended_entry) (sym (some_waits (suc (length others)) (omega arith)))

    between_is : between ≡ map.insert m.entries g ended_entry
    between_is =
        left_own logic m g turn version idle_after input own (Some waiting) say.same last sender between d
        ∙ ap (λ n. change_at m.entries g (stays_or_goes (closed_entry own.entry own.request (Some waiting) say.same n))) still
        ∙ ap (change_at m.entries g) (busy_stays ended_entry refl)

    ends_is : change_at m.entries g (ends_activation own.entry own.request own.entry.queue) ≡ (if idle_after then map.remove between g else between)
    ends_is = ends_by own.entry.queue ∙ (λ i. if sym own.idle_after_is i then map.remove (sym between_is i) g else sym between_is i)

  -- ---- what a call comes to

  -- the machine as the calls left it
  abbrev pub left : Entries → Rows → List Reply → Machine
  left entries rows replies = record m { entries = entries; rows = rows; replies = replies }

  closed_left : (phase : Option Phase) (rows at : Rows) (outcome : Result Tree Fault) (new : Entries) (replies : List Reply) → ClosesTold m.entries m.replies g turn phase say.same m.clock outcome new replies → at ≡ rows
      → told_machine (without_it phase) rows outcome ≡ left new at replies
  closed_left phase rows at outcome new replies t are = λ i. left
      (sym (left_own logic m g turn version idle_after input own phase say.same m.clock t.sender new t.closes) i) (sym are i)
      (sym (t.told_is ∙ ap (λ s. m.replies ++ reply_to s outcome) (sent_own logic m g turn version idle_after input own phase say.same m.clock t.sender new t.closes)) i)

  module _ {E : Type 0} (c : StorageCall) (is : asked ≡ c) (asking : asks c ≡ true) (last : ℕ) (still : last ≡ own.entry.last) where
    abbrev Answers : Bool → Result Bool E → Entries → Rows → List Reply → Type 0
    Answers failed result new rows replies = StepAnswers logic m (Store g turn failed) result (left new rows replies)

    marked_answers : (result : Result Bool E) (new : Entries) (rows : Rows) (replies : List Reply) → rows ≡ m.rows
        → ClosesBy m.entries m.replies g turn idle_after m.clock last (Err storage.Failed) result new replies → Answers true result new rows replies
    marked_answers result new rows replies are d =
        subst (λ x. Answers true x new rows replies) (sym d.0)
        (store_marked (ap asks is ∙ asking) ∙ ap Some (closed_left None m.rows rows (Err StorageFailed) new replies d.1 are))

    plain_answers : (r : Result StorageAnswer StoreFault) (rows : Rows) (count : ℕ) → Gives (given logic m.rows g input.state version c) m.rows 0 r rows count → count ≡ 0
        → (result : Result Bool E) (new : Entries) (replies : List Reply) → ClosesBy m.entries m.replies g turn idle_after m.clock last r result new replies → Answers false result new rows replies
    plain_answers (Ok s) rows count gives none result new replies d =
        subst (λ x. Answers false x new rows replies) (sym d.0)
        (given_step c is asking s.state s.version rows (sym (own_given c) ∙ gives.0)
        ∙ ap (λ t. Some (told_machine (without_it (Some (ready s.state s.version))) rows (Ok t))) (sym gives.1)
        ∙ ap Some (closed_left (Some (ready s.state s.version)) rows rows (Ok s.told) new replies d.1 refl))
    plain_answers (Err storage.Failed) rows count gives none result new replies d = absurd (let more = sym none ∙ gives.1 in cc)
    plain_answers (Err (storage.Stale found)) rows count gives none result new replies d =
        subst (λ x. Answers false x new rows replies) (sym d.0)
        (stale_step c is asking found (sym (own_given c) ∙ gives.0)
        ∙ (λ i. Some (left ((ends_is last still d.1.sender d.1.between d.1.closes ∙ sym d.1.left) i) (sym gives.1 i)
        (sym (d.1.told_is ∙ ap (λ s. m.replies ++ reply_to s (Err (StateChanged g))) (sent_own logic m g turn version idle_after input own (Some waiting) say.same last d.1.sender d.1.between d.1.closes)) i))))
    plain_answers (Err storage.Spent) rows count gives none result new replies d =
        subst (λ x. Answers false x new rows replies) (sym d.0)
        (spent_step c is asking (sym (own_given c) ∙ gives.0) ∙ ap Some (closed_left None m.rows rows (Err (VersionsSpent g)) new replies d.1 gives.1))
    plain_answers (Err storage.Memory) rows count gives none result new replies d = by result d
      where
        by : (x : Result Bool E) → ClosesBy m.entries m.replies g turn idle_after m.clock last (Err storage.Memory) x new replies → Answers false x new rows replies
        by (Ok b) d = absurd (let none = d.0 in cc)
        by (Err e) d = λ i. left (d.1 i) (gives.0 i) (d.2 i)

    pub store_answers : (failed : Bool) (r : Result StorageAnswer StoreFault) (rows : Rows) (count : ℕ) → GivesMarked failed (given logic m.rows g input.state version c) m.rows 0 r rows count → count ≡ 0
        → (result : Result Bool E) (new : Entries) (replies : List Reply) → ClosesBy m.entries m.replies g turn idle_after m.clock last r result new replies → Answers failed result new rows replies
    store_answers true r rows count gives none result new replies d =
        marked_answers result new rows replies gives.1 (subst (λ x. ClosesBy m.entries m.replies g turn idle_after m.clock last x result new replies) gives.0 d)
    store_answers false r rows count gives none result new replies d = plain_answers r rows count gives none result new replies d
