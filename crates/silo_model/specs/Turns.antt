-- How an entry is activated and loaded, and how its turns are opened and closed.
use Rattle.std.specs.Prelude.{ℕ, ◌+◌, Bool, true, false, ◌&&◌, ◌==◌, if◌then◌else◌, List, [], ◌∷◌, ◌++◌, map, flat_map}
use Rattle.std.specs.Prelude.{Option, Some, None, option_map, Result, Ok, Err}
use Rattle.std.specs.List.{list_all}
use Rattle.std.specs.FinMap as finite
use Rattle.grain_id.specs.Names.{Grain}
use Rattle.request_codec.specs.Tree.{Tree}
use Rattle.grain_storage.specs.declared.row.Row.{Row}
use Rattle.grain_storage.specs.Rows.{RowFault, stale, spent, version_of, content_or}
use Rattle.silo_event.specs.declared.fault.Fault.{Fault}
use Rattle.silo_event.specs.declared.fault.Fault.TheVariants.{StorageFailed, StateChanged, VersionsSpent, NoMemory}
use Rattle.grain_logic.specs.declared.fault.MethodFault.{MethodFault}
use Rattle.grain_logic.specs.Logic.{Logic, Plan, Outgoing, StorageCall, asks_nothing, reads_row, writes_row, clears_row}
use Rattle.grain_logic.specs.Logic.{Keep, same, rest, stay}
use Rattle.silo_model.specs.Methods.{method_fault}
use Rattle.silo_model.specs.Machine.{Account, Entry, Request, Send, Phase, waiting, loading, ready}
use Rattle.silo_model.specs.Effect.{Context, Effect, Change, keep, put, drop, on_entry}
use Rattle.silo_model.specs.Calls.{reply_to}
use Rattle.silo_model.specs.Idle.{is_idle}
use Rattle.silo_model.specs.Stores.{row_written, row_cleared, version_value}

-- ---- activating and loading

-- an entry that waits begins to load
abbrev pub activated : Entry → Phase → Option Effect
activated e waiting = Some (on_entry (record e { phase = loading }))
activated e loading = None
activated e (ready state version) = None

-- each request that waits, in order, is told that the storage failed, and the entry goes
abbrev pub unloaded : Entry → Effect
unloaded e = record { account = keep; entry = drop; row = keep; replies = flat_map (λ q. reply_to q.sender (Err StorageFailed)) e.queue }

-- An entry that loads gets the row's content, or the kind's empty state, and stands on the row's version. It neither rests
-- nor stays.
abbrev pub loaded : Logic → Context → Grain → Bool → Entry → Phase → Option Effect
loaded logic s grain failed e waiting = None
loaded logic s grain failed e loading =
    Some (if failed then unloaded e else on_entry
    (record e { phase = ready (content_or (logic.empty grain.kind) s.row) (version_of s.row); until = 0; resting = false }))
loaded logic s grain failed e (ready state version) = None

-- ---- opening a turn

-- the request asks for a method that only reads
abbrev pub reads : Logic → Grain → Request → Bool
reads logic grain request = logic.is_read grain.kind request.call.method

-- One that only reads may begin if each open turn only reads, another if no turn is open.
abbrev pub may_open : Logic → Grain → Entry → Request → Bool
may_open logic grain e request =
    if reads logic grain request then list_all (reads logic grain) (finite.values e.turns) else finite.len e.turns == 0

-- the first waiting request becomes an open turn, if it may
abbrev pub opened : Logic → Grain → Entry → List Request → Option Effect
opened logic grain e [] = None
opened logic grain e (first ∷ others) =
    if may_open logic grain e first then Some
    (on_entry (record e { queue = others; turns = finite.insert e.turns first.number first })) else None

abbrev pub opened_if_ready : Logic → Grain → Entry → Phase → Option Effect
opened_if_ready logic grain e waiting = None
opened_if_ready logic grain e loading = None
opened_if_ready logic grain e (ready state version) = opened logic grain e e.queue

-- ---- closing a turn

-- what the turn's own message comes to, on the entry's state
abbrev pub plan_of : Logic → Grain → Tree → Request → Plan
plan_of logic grain state request = logic.plan grain.kind request.call.method state request.call.argument

-- the entry without the turn
abbrev pub without_turn : Entry → Request → Entry
without_turn e request = record e { turns = finite.remove e.turns request.number }

-- until when an entry stays after a turn that closed at this moment and said this, and whether it rests then
abbrev pub until_by : ℕ → Keep → ℕ → ℕ
until_by clock same until = until
until_by clock rest until = 0
until_by clock (stay time) until = clock + time

abbrev pub resting_by : Keep → Bool → Bool
resting_by same resting = resting
resting_by rest resting = true
resting_by (stay time) resting = false

-- an entry that rests goes if it is idle, and any other stays
abbrev pub stays_or_goes : Entry → Change Entry
stays_or_goes e = if e.resting && is_idle e then drop else put e

-- The entry without the turn: ready with this state, on this version, last used now, and as the turn said of it.
abbrev pub closed_entry : ℕ → Entry → Request → Tree → Option ℕ → Keep → Entry
closed_entry clock e request state version said = record (without_turn e request) {
  phase = ready state version;
  last = clock;
  until = until_by clock said e.until;
  resting = resting_by said e.resting;
}

-- The turn is closed, and its request answered. The entry goes if it rests and is idle now, and else stays ready.
abbrev pub closed : Context → Entry → Request → Tree → Option ℕ → Keep → Change Row → Result Tree Fault → Effect
closed s e request state version said row outcome = record {
  account = keep;
  entry = stays_or_goes (closed_entry s.clock e request state version said);
  row = row;
  replies = reply_to request.sender outcome;
}

-- ---- a turn that asks nothing of the storage ends by its plan

-- a call that a grain sends
abbrev pub sent_from : Grain → Outgoing → Send
sent_from grain m = record { source = grain; message = record { target = m.target; call = m.call } }

-- the grain sent these
abbrev pub sent_by : Grain → List Outgoing → List Send
sent_by grain outgoing = map (sent_from grain) outgoing

-- what a turn sends goes last among what its tenant's grains sent
abbrev pub with_sends : Grain → Option Account → List Outgoing → Change Account
with_sends grain account [] = keep
with_sends grain None (o ∷ os) = keep
with_sends grain (Some a) (o ∷ os) = put (record a { sends = a.sends ++ sent_by grain (o ∷ os) })

abbrev pub outcome_of : Result Tree MethodFault → Result Tree Fault
outcome_of (Ok v) = Ok v
outcome_of (Err why) = Err (method_fault why)

-- the plan's state stands, its sends go out, and its outcome is the reply
abbrev pub ended_by : Context → Grain → Entry → Request → Option ℕ → Plan → StorageCall → Option Effect
ended_by s grain e request version plan asks_nothing =
    Some
    (record (closed s e request plan.state version plan.keep keep (outcome_of plan.outcome)) {
      account = with_sends grain s.account plan.sends;
    })
ended_by s grain e request version plan reads_row = None
ended_by s grain e request version plan writes_row = None
ended_by s grain e request version plan clears_row = None

abbrev pub ended : Logic → Context → Grain → Entry → Request → Phase → Option Effect
ended logic s grain e request waiting = None
ended logic s grain e request loading = None
ended logic s grain e request (ready state version) =
    let plan = plan_of logic grain state request in
    ended_by s grain e request version plan plan.storage

-- ---- a turn that asks for the storage is closed by what the storage answers

-- the activation ends: its waiting requests wait for a new one, and it goes if none waits
abbrev pub ends_activation : Entry → Request → List Request → Change Entry
ends_activation e request [] = drop
ends_activation e request (first ∷ others) = put (record (without_turn e request) { phase = waiting })

-- what a change of the row answered: if it was done, the entry has the new state and stands on the row's version
abbrev pub row_changed : Context → Grain → Entry → Request → Tree → Option ℕ → Tree → Result (Option ℕ × Change Row) RowFault → Effect
row_changed s grain e request state version new (Ok done) = closed s e request new done.0 same done.1 (Ok (version_value done.0))
row_changed s grain e request state version new (Err (stale found)) = record {
  account = keep;
  entry = ends_activation e request e.queue;
  row = keep;
  replies = reply_to request.sender (Err (StateChanged grain));
}
row_changed s grain e request state version new (Err spent) = closed s e request state version same keep (Err (VersionsSpent grain))

-- what the storage is asked for, at the row that the step sees
abbrev pub stored_by : Logic → Context → Grain → Entry → Request → Tree → Option ℕ → StorageCall → Option Effect
stored_by logic s grain e request state version asks_nothing = None
stored_by logic s grain e request state version reads_row =
    let there = version_of s.row in
    Some (closed s e request (content_or (logic.empty grain.kind) s.row) there same keep (Ok (version_value there)))
stored_by logic s grain e request state version writes_row =
    Some (row_changed s grain e request state version state (row_written version s.row state))
stored_by logic s grain e request state version clears_row =
    Some (row_changed s grain e request state version (logic.empty grain.kind) (row_cleared version s.row))

-- if the storage failed, the entry stays as it is but for the turn
abbrev pub stored : Logic → Context → Grain → Bool → Entry → Request → Phase → Option Effect
stored logic s grain failed e request waiting = None
stored logic s grain failed e request loading = None
stored logic s grain failed e request (ready state version) =
    option_map (λ answer. if failed then closed s e request state version same keep (Err StorageFailed) else answer)
    (stored_by logic s grain e request state version (plan_of logic grain state request).storage)

-- ---- a turn that ran out of memory

-- The entry without the turn, last used now.
abbrev pub abandoned_entry : ℕ → Entry → Request → Entry
abandoned_entry clock e request = record (without_turn e request) { last = clock }

abbrev pub abandoned : Context → Entry → Request → Effect
abandoned s e request = record {
  account = keep;
  entry = stays_or_goes (abandoned_entry s.clock e request);
  row = keep;
  replies = reply_to request.sender (Err NoMemory);
}
