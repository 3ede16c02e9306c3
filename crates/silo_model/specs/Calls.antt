-- How a request is accepted or refused.
use Rattle.std.specs.Prelude.{ℕ, ◌+◌, List, [], ◌∷◌, ◌++◌, length, Option, Some, None, Result, Ok, Err, nat_lt, ◌==◌, if◌then◌else◌}
use Rattle.std.specs.Prelude.{false}
use Rattle.std.specs.FinMap as map
use Rattle.grain_id.specs.Names.{Grain, same_text}
use Rattle.request_codec.specs.Tree.{Tree}
use Rattle.request_codec.specs.Call.{Call}
use Rattle.silo_event.specs.declared.fault.Fault.{Fault}
use Rattle.silo_event.specs.declared.fault.Fault.TheVariants.{UnknownTenant, UnknownKind, AcrossTenants, NoActivation, MailboxFull}
use Rattle.silo_event.specs.declared.fault.Fault.TheVariants.{NoNumber}
use Rattle.silo_event.specs.declared.reply.Reply.{Reply}
use Rattle.silo_event.specs.declared.reply.Party.{Party}
use Rattle.silo_event.specs.declared.reply.Party.TheVariants as party
use Rattle.grain_logic.specs.Logic.{Logic}
pub use Rattle.tenant_accounts.specs.Kept.{last_number}
use Rattle.silo_model.specs.Machine.{Account, Entry, Request, waiting}
use Rattle.silo_model.specs.Effect.{Context, Effect, keep, put, only_replies}

-- one reply
abbrev pub told : Party → Result Tree Fault → List Reply
told recipient outcome = record { recipient = recipient; outcome = outcome } ∷ []

-- the reply to a request: a client is told, and a grain gets no answer to what it asked
abbrev pub reply_to : Party → Result Tree Fault → List Reply
reply_to (party.Client client id) outcome = told (party.Client client id) outcome
reply_to (party.Grain grain) outcome = []

-- ---- the gate: for calls and for pokes

-- the grain's kind is known
abbrev pub kind_gate : Logic → Account → Grain → Result Account Fault
kind_gate logic account grain = if logic.knows grain.kind then Ok account else Err (UnknownKind grain.kind)

-- the tenant is known, and the grain is the tenant's own
abbrev pub gate : Logic → Context → Option Account → Grain → Result Account Fault
gate logic s None grain = Err (UnknownTenant s.tenant)
gate logic s (Some account) grain =
    if same_text grain.tenant s.tenant then kind_gate logic account grain else Err (AcrossTenants s.tenant grain.tenant)

-- ---- behind the gate

-- there is room in the grain's mailbox, or for one more entry of the tenant
abbrev pub room : Context → Account → Grain → Option Entry → Result Account Fault
room s account grain None = if nat_lt s.active account.limits.activations then Ok account else Err (NoActivation s.tenant)
room s account grain (Some e) = if nat_lt (length e.queue) account.limits.mailbox then Ok account else Err (MailboxFull grain)

-- there is a number left, and room
abbrev pub admitted : Context → Grain → Result Account Fault → Result Account Fault
admitted s grain (Ok account) = if account.count == last_number then Err (NoNumber s.tenant) else room s account grain s.entry
admitted s grain (Err why) = Err why

-- the entry with one more waiting request; a new entry waits to be activated
abbrev pub with_request : ℕ → Request → Option Entry → Entry
with_request clock request None =
    record { phase = waiting; queue = request ∷ []; turns = map.empty; last = clock; until = 0; resting = false }
with_request clock request (Some e) = record e { queue = e.queue ++ request ∷ []; last = clock }

-- the request is numbered and waits last
abbrev pub accepted : Context → Party → Call → Account → Effect
accepted s sender call account = record {
  account = put (record account { count = account.count + 1 });
  entry = put (with_request s.clock (record { number = account.count + 1; sender = sender; call = call }) s.entry);
  row = keep;
  replies = [];
}

-- a refused request is a reply to its sender
abbrev pub call_settled : Context → Party → Call → Result Account Fault → Effect
call_settled s sender call (Ok account) = accepted s sender call account
call_settled s sender call (Err why) = only_replies (told sender (Err why))

unfoldable pub called : Logic → Context → Party → Grain → Call → Effect
called logic s sender grain call = call_settled s sender call (admitted s grain (gate logic s s.account grain))
