-- A step that closes a turn, where it is done: what becomes of the entry, and who is told.
use Rattle.silo_model.proofs.Common.{◌++◌, ◌∙◌, ◌≡◌, ◌⊎◌, Abandon, Bool, Change, Effect, End, Entry, Err, Fault, Grain, Logic, NoMemory}
use Rattle.silo_model.proofs.Common.{None, Ok, Option, Phase, Request, Result, Row, RowFault, Some, StateChanged, Step, StorageCall}
use Rattle.silo_model.proofs.Common.{StorageFailed, Store, Tree, VersionsSpent, Whole, ℕ, abandoned_entry, asks_nothing, change_at}
use Rattle.silo_model.proofs.Common.{clears_row, closed_entry, content_or, ends_activation, false, inl, inr, loading, none-some, outcome_of}
use Rattle.silo_model.proofs.Common.{plan_of, reads_row, ready, refl, reply_to, row_changed, row_written, same, same_Some, spent, stale}
use Rattle.silo_model.proofs.Common.{stays_or_goes, stored_by, subst, sym, true, version_of, version_value, waiting, whole_step, writes_row}
use Rattle.std.specs.FinMap as map
use Rattle.silo_model.specs.Stores.{row_cleared}
use Rattle.silo_model.proofs.Tests.{on_found}
use Rattle.silo_model.proofs.TurnSteps.{abandon_absent, abandon_closed, abandon_turn, end_absent, end_clears, end_closed, end_loading}
use Rattle.silo_model.proofs.TurnSteps.{end_reads, end_turn, end_waiting, end_writes, seen_at, store_absent, store_changed, store_closed}
use Rattle.silo_model.proofs.TurnSteps.{store_failed, store_loading, store_not, store_read, store_spent, store_stale, store_waiting}

-- the turn is open
pub record IsOpen (w : Whole) (g : Grain) (turn : ℕ) : Type 0 where
  pub entry : Entry
  pub request : Request
  pub found : map.get w.entries g ≡ Some entry
  pub open_turn : map.get entry.turns turn ≡ Some request

-- Its request is answered, and its entry was used now, and stays or goes.
pub record Uses (w after : Whole) (g : Grain) (turn : ℕ) : Type 0 where
  pub at : IsOpen w g turn
  pub new : Entry
  pub now : new.last ≡ w.clock
  pub outcome : Result Tree Fault
  pub entries : after.entries ≡ change_at w.entries g (stays_or_goes new)
  pub replies : after.replies ≡ w.replies ++ reply_to at.request.sender outcome

-- Its request is answered, and the activation ends.
pub record Ends (w after : Whole) (g : Grain) (turn : ℕ) : Type 0 where
  pub at : IsOpen w g turn
  pub outcome : Result Tree Fault
  pub entries : after.entries ≡ change_at w.entries g (ends_activation at.entry at.request at.entry.queue)
  pub replies : after.replies ≡ w.replies ++ reply_to at.request.sender outcome

abbrev pub Closes : Whole → Whole → Grain → ℕ → Type 0
Closes w after g turn = Uses w after g turn ⊎ Ends w after g turn

-- a step that isn't possible where no turn is open
open_by : (logic : Logic) (w after : Whole) (g : Grain) (turn : ℕ) (s : Step) → (map.get w.entries g ≡ None → whole_step logic w s ≡ None)
    → ((e : Entry) → map.get w.entries g ≡ Some e → map.get e.turns turn ≡ None → whole_step logic w s ≡ None) → whole_step logic w s ≡ Some after → IsOpen w g turn
open_by logic w after g turn s absent closed step =
    on_found (λ _. IsOpen w g turn) (map.get w.entries g) (λ none. absurd (none-some after (sym (absent none) ∙ step)))
    (λ e found.
    on_found (λ _. IsOpen w g turn) (map.get e.turns turn) (λ none. absurd (none-some after (sym (closed e found none) ∙ step)))
    (λ q open_turn. record { entry = e; request = q; found = found; open_turn = open_turn }))

module _ (logic : Logic) (w after : Whole) (g : Grain) (turn : ℕ) where
  -- by the whole after it
  by_step : (s : Step) (next : Whole) → whole_step logic w s ≡ Some next → whole_step logic w s ≡ Some after → Uses w next g turn → Uses w after g turn
  by_step s next is step uses = subst (λ x. Uses w x g turn) (same_Some next after (sym is ∙ step)) uses

  -- ---- one that ran out of memory

  pub abandon_uses : whole_step logic w (Abandon g turn) ≡ Some after → Uses w after g turn
  abandon_uses step =
      let at = open_by logic w after g turn (Abandon g turn) (abandon_absent logic w g turn) (abandon_closed logic w g turn) step in
      by_step (Abandon g turn) _ (abandon_turn logic w g turn at.entry at.found at.request at.open_turn) step
      (record { at = at; new = abandoned_entry w.clock at.entry at.request; now = refl; outcome = Err NoMemory; entries = refl; replies = refl })

  -- ---- one that ends by its plan

  module _ (at : IsOpen w g turn) (state : Tree) (version : Option ℕ) (is : at.entry.phase ≡ ready state version) where
    -- the entry is ready with this state on this version, used now
    ready_with : (new : Tree) (on : Option ℕ) (next : Whole) (outcome : Result Tree Fault)
        → next.entries ≡ change_at w.entries g (stays_or_goes (closed_entry w.clock at.entry at.request new on same)) → next.replies ≡ w.replies ++ reply_to at.request.sender outcome
        → Uses w next g turn
    ready_with new on next outcome entries replies =
        record { at = at; new = closed_entry w.clock at.entry at.request new on same; now = refl; outcome = outcome; entries = entries; replies = replies }

    not_possible : {P : Type 0} (s : Step) → whole_step logic w s ≡ None → whole_step logic w s ≡ Some after → P
    not_possible s none step = absurd (none-some after (sym none ∙ step))

    end_by : (storage : StorageCall) → (plan_of logic g state at.request).storage ≡ storage → whole_step logic w (End g turn) ≡ Some after → Uses w after g turn
    end_by asks_nothing asks step =
        let plan = plan_of logic g state at.request in
        by_step (End g turn) _ (end_turn logic w g turn at.entry at.found at.request at.open_turn state version is plan refl asks) step
        (record { at = at; new = closed_entry w.clock at.entry at.request plan.state version plan.keep; now = refl; outcome = outcome_of plan.outcome; entries = refl; replies = refl })
    end_by reads_row asks step = not_possible (End g turn) (end_reads logic w g turn at.entry at.found at.request at.open_turn state version is (plan_of logic g state at.request) refl asks) step
    end_by writes_row asks step = not_possible (End g turn) (end_writes logic w g turn at.entry at.found at.request at.open_turn state version is (plan_of logic g state at.request) refl asks) step
    end_by clears_row asks step = not_possible (End g turn) (end_clears logic w g turn at.entry at.found at.request at.open_turn state version is (plan_of logic g state at.request) refl asks) step

    -- ---- one that is closed by what the storage answers

    changed : (storage : StorageCall) → (plan_of logic g state at.request).storage ≡ storage → (new : Tree) (r : Result (Option ℕ × Change Row) RowFault)
        → stored_by logic (seen_at w g) g at.entry at.request state version storage ≡ Some (row_changed (seen_at w g) g at.entry at.request state version new r)
        → whole_step logic w (Store g turn false) ≡ Some after → Closes w after g turn
    changed storage asks new (Ok done) changes step =
        inl (by_step (Store g turn false) _ (store_changed logic w g turn at.entry at.found at.request at.open_turn state version is (plan_of logic g state at.request) refl storage asks new (Ok done) changes done.0 done.1 refl) step
        (ready_with new done.0 _ (Ok (version_value done.0)) refl refl))
    changed storage asks new (Err spent) changes step =
        inl (by_step (Store g turn false) _ (store_spent logic w g turn at.entry at.found at.request at.open_turn state version is (plan_of logic g state at.request) refl storage asks new (Err spent) changes refl) step
        (ready_with state version _ (Err (VersionsSpent g)) refl refl))
    changed storage asks new (Err (stale there)) changes step =
        let is_so = store_stale logic w g turn at.entry at.found at.request at.open_turn state version is (plan_of logic g state at.request) refl storage asks new (Err (stale there)) changes there refl in
        subst (λ x. Closes w x g turn) (same_Some _ after (sym is_so ∙ step)) (inr (record { at = at; outcome = Err (StateChanged g); entries = refl; replies = refl }))

    failed : (storage : StorageCall) → (plan_of logic g state at.request).storage ≡ storage → (answer : Effect)
        → stored_by logic (seen_at w g) g at.entry at.request state version storage ≡ Some answer
        → whole_step logic w (Store g turn true) ≡ Some after → Closes w after g turn
    failed storage asks answer does step =
        inl (by_step (Store g turn true) _ (store_failed logic w g turn at.entry at.found at.request at.open_turn state version is (plan_of logic g state at.request) refl storage answer asks does) step
        (ready_with state version _ (Err StorageFailed) refl refl))

    store_by : (b : Bool) (storage : StorageCall) → (plan_of logic g state at.request).storage ≡ storage → whole_step logic w (Store g turn b) ≡ Some after → Closes w after g turn
    store_by b asks_nothing asks step = not_possible (Store g turn b) (store_not logic w g turn at.entry at.found at.request at.open_turn state version is (plan_of logic g state at.request) refl b asks) step
    store_by true reads_row asks step = failed reads_row asks _ refl step
    store_by true writes_row asks step = failed writes_row asks _ refl step
    store_by true clears_row asks step = failed clears_row asks _ refl step
    store_by false reads_row asks step =
        let there = version_of (map.get w.rows g) in
        inl (by_step (Store g turn false) _ (store_read logic w g turn at.entry at.found at.request at.open_turn state version is (plan_of logic g state at.request) refl asks) step
        (ready_with (content_or (logic.empty g.kind) (map.get w.rows g)) there _ (Ok (version_value there)) refl refl))
    store_by false writes_row asks step = changed writes_row asks state (row_written version (map.get w.rows g) state) refl step
    store_by false clears_row asks step = changed clears_row asks (logic.empty g.kind) (row_cleared version (map.get w.rows g)) refl step

  -- ---- by the entry's phase

  ended_in : (at : IsOpen w g turn) (p : Phase) → at.entry.phase ≡ p → whole_step logic w (End g turn) ≡ Some after → Uses w after g turn
  ended_in at waiting is step = absurd (none-some after (sym (end_waiting logic w g turn at.entry at.found is) ∙ step))
  ended_in at loading is step = absurd (none-some after (sym (end_loading logic w g turn at.entry at.found is) ∙ step))
  ended_in at (ready state version) is step = end_by at state version is (plan_of logic g state at.request).storage refl step

  stored_in : (b : Bool) (at : IsOpen w g turn) (p : Phase) → at.entry.phase ≡ p → whole_step logic w (Store g turn b) ≡ Some after → Closes w after g turn
  stored_in b at waiting is step = absurd (none-some after (sym (store_waiting logic w g turn at.entry at.found b is) ∙ step))
  stored_in b at loading is step = absurd (none-some after (sym (store_loading logic w g turn at.entry at.found b is) ∙ step))
  stored_in b at (ready state version) is step = store_by at state version is b (plan_of logic g state at.request).storage refl step

  pub end_uses : whole_step logic w (End g turn) ≡ Some after → Uses w after g turn
  end_uses step =
      let at = open_by logic w after g turn (End g turn) (end_absent logic w g turn) (end_closed logic w g turn) step in
      ended_in at at.entry.phase refl step

  pub store_closes : (b : Bool) → whole_step logic w (Store g turn b) ≡ Some after → Closes w after g turn
  store_closes b step =
      let at = open_by logic w after g turn (Store g turn b) (store_absent logic w g turn b) (λ e found none. store_closed logic w g turn e found b none) step in
      stored_in b at at.entry.phase refl step
