-- When an open turn is closed: by what the whole has at the grain.
use Rattle.silo_model.proofs.Common.{if◌then◌else◌, ◌++◌, ◌∙◌, ◌≡◌, Abandon, Bool, Change, Context, Effect, End, Entries, Entry, Err, Grain}
use Rattle.silo_model.proofs.Common.{Keep, List, Logic, NoMemory, None, Ok, Option, Outgoing, Plan, Request, Result, Row, RowFault, Some}
use Rattle.silo_model.proofs.Common.{StateChanged, StorageCall, StorageFailed, Store, Tree, VersionsSpent, Whole, [], abandoned_entry, ap}
use Rattle.silo_model.proofs.Common.{asks_nothing, change_at, clears_row, closed, closed_entry, content_or, context_of, effect_of}
use Rattle.silo_model.proofs.Common.{ends_activation, false, keep, loading, option_and_then, option_map, outcome_of, plan_of, reads_row}
use Rattle.silo_model.proofs.Common.{ready, refl, reply_to, row_changed, same, spent, spread, stale, stays_or_goes, stored, stored_by, true}
use Rattle.silo_model.proofs.Common.{version_of, version_value, waiting, whole_step, with_sends, writes_row, ℕ}
use Rattle.std.specs.FinMap as map
use Rattle.silo_model.specs.Turns.{abandoned, ended, ended_by}
use Rattle.silo_model.specs.Step.{at_turn}
use Rattle.silo_model.proofs.Contexts.{step_at_own}
use Rattle.silo_model.proofs.EntrySteps.{at_entry}

never : {A B : Type 0} (f : A → Option B) (o : Option A) → ((x : A) → f x ≡ None) → option_and_then f o ≡ None
never f None h = refl
never f (Some x) h = h x

-- the entries after a close: the entry without the turn stays, or goes
abbrev pub left_at : Whole → Grain → Entry → Entries
left_at w g new = change_at w.entries g (stays_or_goes new)

-- the same, by the state and the version that it is ready with, and what the turn said of the activation
abbrev pub closed_at : Whole → Grain → Entry → Request → Tree → Option ℕ → Keep → Entries
closed_at w g e request state version said = left_at w g (closed_entry w.clock e request state version said)

-- what the whole has at the grain, as a step there sees it
abbrev pub seen_at : Whole → Grain → Context
seen_at w g = context_of w g.tenant g

module _ (logic : Logic) (w : Whole) (g : Grain) (turn : ℕ) where
  abbrev ending : Entry → Request → Option Effect
  ending e request = ended logic (seen_at w g) g e request e.phase

  abbrev storing : Bool → Entry → Request → Option Effect
  storing failed e request = stored logic (seen_at w g) g failed e request e.phase

  abbrev abandoning : Entry → Request → Option Effect
  abandoning e request = Some (abandoned (seen_at w g) e request)

  -- a grain without an entry
  pub end_absent : map.get w.entries g ≡ None → whole_step logic w (End g turn) ≡ None
  unfolding effect_of
  end_absent none = step_at_own logic w (End g turn) g.tenant g None refl refl refl (ap (option_and_then (at_turn ending turn)) none)

  pub store_absent : (failed : Bool) → map.get w.entries g ≡ None → whole_step logic w (Store g turn failed) ≡ None
  unfolding effect_of
  store_absent failed none = step_at_own logic w (Store g turn failed) g.tenant g None refl refl refl (ap (option_and_then (at_turn (storing failed) turn)) none)

  pub abandon_absent : map.get w.entries g ≡ None → whole_step logic w (Abandon g turn) ≡ None
  unfolding effect_of
  abandon_absent none = step_at_own logic w (Abandon g turn) g.tenant g None refl refl refl (ap (option_and_then (at_turn abandoning turn)) none)

  module _ (e : Entry) (found : map.get w.entries g ≡ Some e) where
    pub end_found : (r : Option Effect) → at_turn ending turn e ≡ r → whole_step logic w (End g turn) ≡ option_map (spread w g.tenant (Some g)) r
    unfolding effect_of
    end_found r h = step_at_own logic w (End g turn) g.tenant g r refl refl refl (at_entry (at_turn ending turn) (map.get w.entries g) e r found h)

    pub store_found : (failed : Bool) (r : Option Effect) → at_turn (storing failed) turn e ≡ r → whole_step logic w (Store g turn failed) ≡ option_map (spread w g.tenant (Some g)) r
    unfolding effect_of
    store_found failed r h = step_at_own logic w (Store g turn failed) g.tenant g r refl refl refl (at_entry (at_turn (storing failed) turn) (map.get w.entries g) e r found h)

    pub abandon_found : (r : Option Effect) → at_turn abandoning turn e ≡ r → whole_step logic w (Abandon g turn) ≡ option_map (spread w g.tenant (Some g)) r
    unfolding effect_of
    abandon_found r h = step_at_own logic w (Abandon g turn) g.tenant g r refl refl refl (at_entry (at_turn abandoning turn) (map.get w.entries g) e r found h)

    -- that turn isn't open
    pub end_closed : map.get e.turns turn ≡ None → whole_step logic w (End g turn) ≡ None
    end_closed none = end_found None (ap (option_and_then (ending e)) none)

    pub store_closed : (failed : Bool) → map.get e.turns turn ≡ None → whole_step logic w (Store g turn failed) ≡ None
    store_closed failed none = store_found failed None (ap (option_and_then (storing failed e)) none)

    pub abandon_closed : map.get e.turns turn ≡ None → whole_step logic w (Abandon g turn) ≡ None
    abandon_closed none = abandon_found None (ap (option_and_then (abandoning e)) none)

    -- the entry isn't ready
    pub end_waiting : e.phase ≡ waiting → whole_step logic w (End g turn) ≡ None
    end_waiting is = end_found None (never _ (map.get e.turns turn) (λ request. ap (ended logic (seen_at w g) g e request) is))

    pub end_loading : e.phase ≡ loading → whole_step logic w (End g turn) ≡ None
    end_loading is = end_found None (never _ (map.get e.turns turn) (λ request. ap (ended logic (seen_at w g) g e request) is))

    pub store_waiting : (failed : Bool) → e.phase ≡ waiting → whole_step logic w (Store g turn failed) ≡ None
    store_waiting failed is = store_found failed None (never _ (map.get e.turns turn) (λ request. ap (stored logic (seen_at w g) g failed e request) is))

    pub store_loading : (failed : Bool) → e.phase ≡ loading → whole_step logic w (Store g turn failed) ≡ None
    store_loading failed is = store_found failed None (never _ (map.get e.turns turn) (λ request. ap (stored logic (seen_at w g) g failed e request) is))

    module _ (request : Request) (open_turn : map.get e.turns turn ≡ Some request) where
      pub abandon_turn : whole_step logic w (Abandon g turn)
          ≡ Some (record w { entries = left_at w g (abandoned_entry w.clock e request); replies = w.replies ++ reply_to request.sender (Err NoMemory) })
      unfolding spread
      abandon_turn = abandon_found (Some (abandoned (seen_at w g) e request)) (ap (option_and_then (abandoning e)) open_turn)

      module _ (state : Tree) (version : Option ℕ) (is : e.phase ≡ ready state version) (plan : Plan) (planned : plan_of logic g state request ≡ plan) where
        -- ---- End

        end_planned : (storage : StorageCall) (r : Option Effect) → plan.storage ≡ storage → ended_by (seen_at w g) g e request version plan storage ≡ r → whole_step logic w (End g turn) ≡ option_map (spread w g.tenant (Some g)) r
        end_planned storage r asks h =
            end_found r
            (ap (option_and_then (ending e)) open_turn
            ∙ ap (ended logic (seen_at w g) g e request) is
            ∙ ap (λ (p : Plan). ended_by (seen_at w g) g e request version p p.storage) planned
            ∙ ap (ended_by (seen_at w g) g e request version plan) asks
            ∙ h)

        -- the turn asks for the storage
        pub end_reads : plan.storage ≡ reads_row → whole_step logic w (End g turn) ≡ None
        end_reads asks = end_planned reads_row None asks refl

        pub end_writes : plan.storage ≡ writes_row → whole_step logic w (End g turn) ≡ None
        end_writes asks = end_planned writes_row None asks refl

        pub end_clears : plan.storage ≡ clears_row → whole_step logic w (End g turn) ≡ None
        end_clears asks = end_planned clears_row None asks refl

        abbrev ended_whole : List Outgoing → Whole
        ended_whole sends = record w {
          accounts = change_at w.accounts g.tenant (with_sends g (map.get w.accounts g.tenant) sends);
          entries = closed_at w g e request plan.state version plan.keep;
          replies = w.replies ++ reply_to request.sender (outcome_of plan.outcome);
        }

        -- the plan's state stands, its sends go out, and its outcome is the reply
        pub end_turn : plan.storage ≡ asks_nothing
            → whole_step logic w (End g turn) ≡ Some (record w {
              accounts = change_at w.accounts g.tenant (with_sends g (map.get w.accounts g.tenant) plan.sends);
              entries = closed_at w g e request plan.state version plan.keep;
              replies = w.replies ++ reply_to request.sender (outcome_of plan.outcome);
            })
        unfolding spread
        end_turn asks = end_planned asks_nothing _ asks refl

        -- a plan that sends nothing leaves the account
        pub end_silent_turn : plan.storage ≡ asks_nothing → plan.sends ≡ []
            → whole_step logic w (End g turn) ≡ Some (record w { entries = closed_at w g e request plan.state version plan.keep; replies = w.replies ++ reply_to request.sender (outcome_of plan.outcome) })
        end_silent_turn asks silent = end_turn asks ∙ ap (λ sends. Some (ended_whole sends)) silent

        -- ---- Store

        abbrev unless : Bool → Effect → Effect
        unless failed answer = if failed then closed (seen_at w g) e request state version same keep (Err StorageFailed) else answer

        store_planned : (failed : Bool) (storage : StorageCall) (r : Option Effect) → plan.storage ≡ storage → stored_by logic (seen_at w g) g e request state version storage ≡ r
            → whole_step logic w (Store g turn failed) ≡ option_map (spread w g.tenant (Some g)) (option_map (unless failed) r)
        store_planned failed storage r asks h =
            store_found failed (option_map (unless failed) r)
            (ap (option_and_then (storing failed e)) open_turn
            ∙ ap (stored logic (seen_at w g) g failed e request) is
            ∙ ap (λ (p : Plan). option_map (unless failed) (stored_by logic (seen_at w g) g e request state version p.storage)) planned
            ∙ ap (λ c. option_map (unless failed) (stored_by logic (seen_at w g) g e request state version c)) asks
            ∙ ap (option_map (unless failed)) h)

        -- the turn asks nothing of the storage
        pub store_not : (failed : Bool) → plan.storage ≡ asks_nothing → whole_step logic w (Store g turn failed) ≡ None
        store_not failed asks = store_planned failed asks_nothing None asks refl

        -- the storage answered
        pub store_done : (storage : StorageCall) (answer : Effect) → plan.storage ≡ storage → stored_by logic (seen_at w g) g e request state version storage ≡ Some answer
            → whole_step logic w (Store g turn false) ≡ Some (spread w g.tenant (Some g) answer)
        store_done storage answer asks h = store_planned false storage (Some answer) asks h

        -- the storage failed
        pub store_failed : (storage : StorageCall) (answer : Effect) → plan.storage ≡ storage → stored_by logic (seen_at w g) g e request state version storage ≡ Some answer
            → whole_step logic w (Store g turn true) ≡ Some (record w { entries = closed_at w g e request state version same; replies = w.replies ++ reply_to request.sender (Err StorageFailed) })
        unfolding spread
        store_failed storage answer asks h = store_planned true storage (Some answer) asks h

        -- ---- what the storage may answer

        -- the row is read again
        pub store_read : plan.storage ≡ reads_row
            → whole_step logic w (Store g turn false) ≡ Some (record w {
              entries = closed_at w g e request (content_or (logic.empty g.kind) (map.get w.rows g)) (version_of (map.get w.rows g)) same;
              replies = w.replies ++ reply_to request.sender (Ok (version_value (version_of (map.get w.rows g))));
            })
        unfolding spread
        store_read asks = store_done reads_row _ asks refl

        -- a write and a clearing differ in the state that the entry has after them
        module _ (storage : StorageCall) (asks : plan.storage ≡ storage) (new : Tree) (r : Result (Option ℕ × Change Row) RowFault)
            (changes : stored_by logic (seen_at w g) g e request state version storage ≡ Some (row_changed (seen_at w g) g e request state version new r)) where
          by_answer : (s : Result (Option ℕ × Change Row) RowFault) → r ≡ s → whole_step logic w (Store g turn false) ≡ Some (spread w g.tenant (Some g) (row_changed (seen_at w g) g e request state version new s))
          by_answer s is = store_done storage _ asks changes ∙ ap (λ x. Some (spread w g.tenant (Some g) (row_changed (seen_at w g) g e request state version new x))) is

          -- the row was changed
          pub store_changed : (at : Option ℕ) (row : Change Row) → r ≡ Ok (at, row)
              → whole_step logic w (Store g turn false) ≡ Some (record w {
                entries = closed_at w g e request new at same;
                rows = change_at w.rows g row;
                replies = w.replies ++ reply_to request.sender (Ok (version_value at));
              })
          unfolding spread
          store_changed at row is = by_answer (Ok (at, row)) is

          -- it has no version left
          pub store_spent : r ≡ Err spent
              → whole_step logic w (Store g turn false) ≡ Some (record w { entries = closed_at w g e request state version same; replies = w.replies ++ reply_to request.sender (Err (VersionsSpent g)) })
          unfolding spread
          store_spent is = by_answer (Err spent) is

          -- it isn't the one that the entry stands on: the activation ends
          pub store_stale : (there : Option ℕ) → r ≡ Err (stale there)
              → whole_step logic w (Store g turn false) ≡ Some (record w { entries = change_at w.entries g (ends_activation e request e.queue); replies = w.replies ++ reply_to request.sender (Err (StateChanged g)) })
          unfolding spread
          store_stale there is = by_answer (Err (stale there)) is
