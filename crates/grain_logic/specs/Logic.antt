-- What the methods of grains compute, over values.
use Rattle.std.specs.Prelude.{ℕ, Bool, List, Result}
use Rattle.grain_id.specs.Names.{Grain}
use Rattle.request_codec.specs.Tree.{Tree}
use Rattle.request_codec.specs.Call.{Call}
use Rattle.grain_logic.specs.declared.fault.MethodFault.{MethodFault}

-- what a turn may ask of the storage
pub data StorageCall : Type 0 where
  asks_nothing : StorageCall
  reads_row : StorageCall
  writes_row : StorageCall
  clears_row : StorageCall

-- What a turn says of the grain's activation: nothing; that it rests, so that it goes as soon as no request waits and no
-- turn is open; or that it stays for at least so many milliseconds, however long it is idle.
pub data Keep : Type 0 where
  same : Keep
  rest : Keep
  stay : ℕ → Keep

-- a call that a turn sends to a grain
pub record Outgoing : Type 0 where
  pub target : Grain
  pub call : Call

-- what a turn comes to: the state after it, what it answers, what it asks of the storage, what it sends, and what it says
-- of the activation
pub record Plan : Type 0 where
  pub state : Tree
  pub outcome : Result Tree MethodFault
  pub storage : StorageCall
  pub sends : List Outgoing
  pub keep : Keep

-- A logic: the kinds that it knows, which methods of a kind only read, each kind's empty state, and the plan of a
-- kind, a method, a state and an argument.
pub record Logic : Type 0 where
  pub knows : List ℕ → Bool
  pub is_read : List ℕ → List ℕ → Bool
  pub empty : List ℕ → Tree
  pub plan : List ℕ → List ℕ → Tree → Tree → Plan
