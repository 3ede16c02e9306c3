-- What steps do to a grain's row: a poke, a write, a clearing, a reload, and a store that finds another row.
use Rattle.std.specs.Prelude.{◌++◌, ◌+◌, ◌∷◌, ◌≡◌, Err, List, None, Ok, Option, Some, ℕ, [], decimal, false, true}
use Rattle.std.specs.FinMap as map
use Rattle.grain_id.specs.Names.{Client, Grain}
use Rattle.request_codec.specs.Tree.{Tree, null, text}
use Rattle.grain_storage.specs.declared.row.Row.{Row}
use Rattle.grain_storage.specs.Rows.{content_or, is_spent, is_stale, version_of}
use Rattle.silo_event.specs.Fault.{fault_code}
use Rattle.silo_event.specs.declared.fault.Fault.{Fault}
use Rattle.silo_event.specs.declared.reply.Party.TheVariants as party
use Rattle.silo_event.specs.declared.step.Step.TheVariants.{Poke, Store}
use Rattle.grain_logic.specs.Logic.{Logic, StorageCall, clears_row, reads_row, writes_row}
use Rattle.silo_model.specs.Machine.{Account, Entry, Request, ready, waiting}
use Rattle.silo_model.specs.Calls.{told}
use Rattle.silo_model.specs.Turns.{plan_of}
use Rattle.silo_model.specs.Whole.{Whole, whole_step}

-- the version after that of the row: 1 if there is none
abbrev pub one_on : Option Row → ℕ
one_on None = 1
one_on (Some row) = row.version + 1

-- what a client is told of a version: its decimal text, or null
abbrev pub told_version : Option ℕ → Tree
told_version None = null
told_version (Some version) = text (decimal version)

-- ---- pokes

-- The row is one version on, with the state; its version is told; and no entry is touched.
pub record IsPoked (w after : Whole) (caller : Client) (id : ℕ) (grain : Grain) (state : Tree) : Type 0 where
  pub row : map.get after.rows grain ≡ Some (record { version = one_on (map.get w.rows grain); content = Some state })
  pub entries : after.entries ≡ w.entries
  pub replies : after.replies ≡ w.replies ++ told (party.Client caller id) (Ok (told_version (Some (one_on (map.get w.rows grain)))))

-- So it is after a poke that passes the gate, if there is a version after the row's.
abbrev pub PokeIsStored : Type 0
PokeIsStored =
    (logic : Logic) (w : Whole) (caller : Client) (id : ℕ) (grain : Grain) (state : Tree) (a : Account)
    → map.get w.accounts caller.tenant ≡ Some a → grain.tenant ≡ caller.tenant → logic.knows grain.kind ≡ true
    → is_spent (map.get w.rows grain) ≡ false
    → (after : Whole) × (whole_step logic w (Poke false caller id grain state) ≡ Some after) × IsPoked w after caller id grain state

-- ---- turns that ask for the storage

-- A turn of the client's request is open, at an entry that doesn't rest, has this state and stands on this version; and it
-- asks this of the storage.
pub record IsAsking (logic : Logic) (w : Whole) (grain : Grain) (turn : ℕ) (call : StorageCall) (state : Tree) (version : Option ℕ)
    (caller : Client) (id : ℕ) : Type 0 where
  pub entry : Entry
  pub request : Request
  pub found : map.get w.entries grain ≡ Some entry
  pub open_turn : map.get entry.turns turn ≡ Some request
  pub phase : entry.phase ≡ ready state version
  pub asks : (plan_of logic grain state request).storage ≡ call
  pub sender : request.sender ≡ party.Client caller id
  pub awake : entry.resting ≡ false

-- The Store is done: the row is this, the entry is ready with this state and stands on the row's version, and the client is
-- told that version.
pub record IsStored (w after : Whole) (grain : Grain) (caller : Client) (id : ℕ) (state : Tree) (row : Option Row) : Type 0 where
  pub entry : Entry
  pub found : map.get after.entries grain ≡ Some entry
  pub phase : entry.phase ≡ ready state (version_of row)
  pub row_is : map.get after.rows grain ≡ row
  pub replies : after.replies ≡ w.replies ++ told (party.Client caller id) (Ok (told_version (version_of row)))

-- A write leaves the state, and the row one version on with the state as its content.
abbrev pub WriteIsStored : Type 0
WriteIsStored =
    (logic : Logic) (w : Whole) (grain : Grain) (turn : ℕ) (state : Tree) (version : Option ℕ) (caller : Client) (id : ℕ)
    → IsAsking logic w grain turn writes_row state version caller id → is_stale version (map.get w.rows grain) ≡ false
    → is_spent (map.get w.rows grain) ≡ false
    → (after : Whole) × (whole_step logic w (Store grain turn false) ≡ Some after)
    × IsStored w after grain caller id state (Some (record { version = one_on (map.get w.rows grain); content = Some state }))

-- the row that a clearing leaves: one version on and without content, or none where there was none
abbrev pub row_without : Option Row → Option Row
row_without None = None
row_without (Some row) = Some (record { version = row.version + 1; content = None })

-- A clearing empties the state and the row.
abbrev pub ClearingEmpties : Type 0
ClearingEmpties =
    (logic : Logic) (w : Whole) (grain : Grain) (turn : ℕ) (state : Tree) (version : Option ℕ) (caller : Client) (id : ℕ)
    → IsAsking logic w grain turn clears_row state version caller id → is_stale version (map.get w.rows grain) ≡ false
    → is_spent (map.get w.rows grain) ≡ false
    → (after : Whole) × (whole_step logic w (Store grain turn false) ≡ Some after)
    × IsStored w after grain caller id (logic.empty grain.kind) (row_without (map.get w.rows grain))

-- A reload gives the entry the row's content, or the kind's empty state; the row stays.
abbrev pub ReloadReads : Type 0
ReloadReads =
    (logic : Logic) (w : Whole) (grain : Grain) (turn : ℕ) (state : Tree) (version : Option ℕ) (caller : Client) (id : ℕ)
    → IsAsking logic w grain turn reads_row state version caller id
    → (after : Whole) × (whole_step logic w (Store grain turn false) ≡ Some after)
    × IsStored w after grain caller id (content_or (logic.empty grain.kind) (map.get w.rows grain)) (map.get w.rows grain)

-- ---- a store that finds another row than its entry stands on

-- a write or a clearing
pub data Changes : StorageCall → Type 0 where
  by_write : Changes writes_row
  by_clearing : Changes clears_row

-- the entry is gone if nothing waited; and else what waited waits on, for a new activation
abbrev pub IsEnded : Whole → Grain → List Request → Type 0
IsEnded after grain [] = map.get after.entries grain ≡ None
IsEnded after grain (first ∷ others) =
    (e : Entry) × (map.get after.entries grain ≡ Some e) × (e.phase ≡ waiting) × (e.queue ≡ first ∷ others)

-- The activation ends, the client is told so by 54, and no row is touched.
abbrev pub StaleStoreEnds : Type 0
StaleStoreEnds =
    (logic : Logic) (w : Whole) (grain : Grain) (turn : ℕ) (call : StorageCall) (state : Tree) (version : Option ℕ) (caller : Client)
    (id : ℕ) (asking : IsAsking logic w grain turn call state version caller id)
    → Changes call → is_stale version (map.get w.rows grain) ≡ true
    → (after : Whole) × (why : Fault) × (whole_step logic w (Store grain turn false) ≡ Some after)
    × IsEnded after grain asking.entry.queue × (after.rows ≡ w.rows) × (fault_code why ≡ 54)
    × (after.replies ≡ w.replies ++ told (party.Client caller id) (Err why))
