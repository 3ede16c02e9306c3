-- What the gate and the call rule answer to a request of a machine's tenant, and what a machine is after a reply and after a request that
-- was accepted.
use Rattle.std.specs.Prelude.{◌≡◌, ◌+◌, ◌++◌, ℕ, Option, Some, None, Result, Ok, Err}
use Rattle.std.specs.FinMap as map
use Rattle.grain_id.specs.Names.{Grain}
use Rattle.request_codec.specs.Tree.{Tree}
use Rattle.request_codec.specs.Call.{Call}
use Rattle.grain_storage.specs.Rows.{Rows, spent, poked}
use Rattle.grain_logic.specs.Logic.{Logic}
use Rattle.silo_event.specs.declared.fault.Fault.{Fault}
use Rattle.silo_event.specs.declared.fault.Fault.TheVariants.{UnknownTenant, VersionsSpent}
use Rattle.silo_event.specs.declared.reply.Party.{Party}
use Rattle.silo_model.specs.Machine.{Machine, Account}
use Rattle.silo_model.specs.Effect.{Context}
use Rattle.silo_model.specs.Calls.{told, gate, admitted, with_request}
use Rattle.silo_model.specs.Stores.{version_value}
use Rattle.silo_state.specs.Status.{status_value}
use Rattle.tenant_machine.specs.inside.Sends.{without_first}

-- what a step at the grain sees
abbrev pub seen_at : Machine → Grain → Context
seen_at m g = record {
  tenant = m.tenant;
  account = m.account;
  clock = m.clock;
  active = map.len m.entries;
  entry = map.get m.entries g;
  row = map.get m.rows g;
}

-- the account of the tenant, if it may ask the grain
abbrev pub gated : Logic → Machine → Grain → Result Account Fault
gated logic m g = gate logic (seen_at m g) m.account g

-- the same, if the tenant's request is accepted
abbrev pub verdict : Logic → Machine → Grain → Result Account Fault
verdict logic m g = admitted (seen_at m g) g (gated logic m g)

-- one reply more
abbrev pub with_told : Machine → Party → Result Tree Fault → Machine
with_told m recipient outcome = record m { replies = m.replies ++ told recipient outcome }

-- the request has the tenant's next number, and waits last at the grain
abbrev pub with_accepted : Machine → Party → Grain → Call → Option Account → Machine
with_accepted m sender g call None = m
with_accepted m sender g call (Some a) = record m {
  account = Some (record a { count = a.count + 1 });
  entries = map.insert m.entries g (with_request m.clock (record { number = a.count + 1; sender = sender; call = call })
      (map.get m.entries g));
}

-- what a client is told that asks how much its tenant has
abbrev pub status_outcome : Machine → Option Account → Result Tree Fault
status_outcome m None = Err (UnknownTenant m.tenant)
status_outcome m (Some a) = Ok (status_value (map.len m.entries) m.clock a.count)

-- The row is overwritten and its version told; or it has the last version.
abbrev pub Overwrites : Rows → Grain → Tree → Result Tree Fault → Rows → Type 0
Overwrites rows g content (Ok said) after = (version : Option ℕ) × (poked rows g content ≡ Ok (version, after))
    × (said ≡ version_value version)
Overwrites rows g content (Err why) after = (poked rows g content ≡ Err spent) × (why ≡ VersionsSpent g) × (after ≡ rows)

-- without the first call that the grain sent
abbrev pub without_sent : Machine → Grain → Option Account → Machine
without_sent m g None = m
without_sent m g (Some a) = record m { account = Some (record a { sends = without_first g a.sends }) }
