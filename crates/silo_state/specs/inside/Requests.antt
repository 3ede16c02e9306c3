-- What a silo's state holds after a reply, and after a request that was accepted.
use Rattle.std.specs.Prelude.{◌+◌, ◌++◌, Option, Some, None, Result}
use Rattle.std.specs.FinMap as map
use Rattle.grain_id.specs.Names.{Grain}
use Rattle.request_codec.specs.Tree.{Tree}
use Rattle.request_codec.specs.Call.{Call}
use Rattle.silo_event.specs.Owner.{tenant_of}
use Rattle.silo_event.specs.declared.fault.Fault.{Fault}
use Rattle.silo_event.specs.declared.reply.Party.{Party}
use Rattle.silo_model.specs.Machine.{Account}
use Rattle.silo_model.specs.Calls.{told, with_request}
use Rattle.silo_state.specs.inside.Held.{Held}

-- one reply more
abbrev pub with_told : Held → Party → Result Tree Fault → Held
with_told h recipient outcome = record h { whole = record h.whole { replies = h.whole.replies ++ told recipient outcome } }

-- the request has the next number of its tenant's account, and waits last at the grain
abbrev pub with_accepted : Held → Party → Grain → Call → Option Account → Held
with_accepted h sender grain call None = h
with_accepted h sender grain call (Some a) = record h {
  whole = record h.whole {
    accounts = map.insert h.whole.accounts (tenant_of sender) (record a { count = a.count + 1 });
    entries = map.insert h.whole.entries grain (with_request h.whole.clock (record {
      number = a.count + 1;
      sender = sender;
      call = call;
    }) (map.get h.whole.entries grain));
  };
}
