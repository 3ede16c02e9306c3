-- Which calls and pokes are refused, and by which code.
use Rattle.std.specs.Prelude.{◌++◌, ◌+◌, ◌<◌, ◌∷◌, ◌≡◌, ◌≢◌, ◌≤◌, Bool, Err, List, None, Option, Some, ℕ, [], false, length, true}
use Rattle.std.specs.FinMap as map
use Rattle.grain_id.specs.Names.{Client, Grain}
use Rattle.request_codec.specs.Call as codec
use Rattle.request_codec.specs.Tree.{Tree}
use Rattle.silo_event.specs.Fault.{fault_code}
use Rattle.silo_event.specs.declared.fault.Fault.{Fault}
use Rattle.silo_event.specs.declared.reply.Party.{Party}
use Rattle.silo_event.specs.declared.reply.Party.TheVariants as party
use Rattle.silo_event.specs.declared.step.Step.TheVariants.{Call, Poke}
use Rattle.grain_logic.specs.Logic.{Logic}
use Rattle.silo_model.specs.Machine.{Account, Entry, Request}
use Rattle.silo_model.specs.Calls.{told}
use Rattle.silo_model.specs.Whole.{Whole, is_of, whole_step}

-- how many entries the tenant has
abbrev pub entries_of : Whole → List ℕ → ℕ
entries_of w tenant = map.len (map.retain_keys w.entries (is_of tenant))

-- The step is done: the party is told a fault of this code, and nothing else changed.
abbrev pub IsRefused : Whole → Option Whole → Party → ℕ → Type 0
IsRefused w result asker code =
    (why : Fault) × (fault_code why ≡ code) × (result ≡ Some (record w { replies = w.replies ++ told asker (Err why) }))

-- The step is done: nobody is told anything, and the request waits last at the grain.
abbrev pub IsAccepted : Whole → Option Whole → Grain → List Request → Request → Type 0
IsAccepted w result grain before request =
    (after : Whole) × (e : Entry) × (result ≡ Some after) × (after.replies ≡ w.replies) × (map.get after.entries grain ≡ Some e)
    × (e.queue ≡ before ++ request ∷ [])

-- What a step that passes the gate for this grain needs, in order; and by which code it is refused else.
pub record GateRefuses (logic : Logic) (w : Whole) (caller : Client) (id : ℕ) (grain : Grain) (result : Option Whole) : Type 0 where
  -- the tenant has an account
  pub unknown_tenant : map.get w.accounts caller.tenant ≡ None → IsRefused w result (party.Client caller id) 21
  -- the grain is the tenant's own
  pub across : (a : Account) → map.get w.accounts caller.tenant ≡ Some a → grain.tenant ≢ caller.tenant
      → IsRefused w result (party.Client caller id) 40
  -- its kind is known
  pub unknown_kind : (a : Account) → map.get w.accounts caller.tenant ≡ Some a → grain.tenant ≡ caller.tenant
      → logic.knows grain.kind ≡ false → IsRefused w result (party.Client caller id) 22

-- the last number that a request may have
abbrev pub no_number_after : ℕ
no_number_after = 9223372036854775807

-- What a call behind the gate needs, in order, and by which code it is refused else; and that it is accepted otherwise.
pub record CallRuleRefuses (w : Whole) (caller : Client) (id : ℕ) (grain : Grain) (call : codec.Call) (a : Account) (result : Option Whole)
    : Type 0 where
  -- a number is left
  pub no_number : a.count ≡ no_number_after → IsRefused w result (party.Client caller id) 43
  -- a grain without an entry may have one: the tenant has fewer than it may
  pub no_activation : a.count ≢ no_number_after → map.get w.entries grain ≡ None → a.limits.activations ≤ entries_of w caller.tenant
      → IsRefused w result (party.Client caller id) 41
  pub new : a.count ≢ no_number_after → map.get w.entries grain ≡ None → entries_of w caller.tenant < a.limits.activations
      → IsAccepted w result grain [] (record { number = a.count + 1; sender = party.Client caller id; call = call })
  -- at one that has an entry, fewer requests wait than may
  pub mailbox_full : (e : Entry) → a.count ≢ no_number_after → map.get w.entries grain ≡ Some e → a.limits.mailbox ≤ length e.queue
      → IsRefused w result (party.Client caller id) 42
  pub again : (e : Entry) → a.count ≢ no_number_after → map.get w.entries grain ≡ Some e → length e.queue < a.limits.mailbox
      → IsAccepted w result grain e.queue (record { number = a.count + 1; sender = party.Client caller id; call = call })

-- Calls are refused so, and pokes at the gate; a call is accepted where nothing of this refuses it.
pub record RefusedByCode : Type 0 where
  pub calls_gate : (logic : Logic) (w : Whole) (caller : Client) (id : ℕ) (grain : Grain) (call : codec.Call)
      → GateRefuses logic w caller id grain (whole_step logic w (Call caller id grain call))
  pub calls : (logic : Logic) (w : Whole) (caller : Client) (id : ℕ) (grain : Grain) (call : codec.Call) (a : Account)
      → map.get w.accounts caller.tenant ≡ Some a → grain.tenant ≡ caller.tenant → logic.knows grain.kind ≡ true
      → CallRuleRefuses w caller id grain call a (whole_step logic w (Call caller id grain call))
  pub pokes_gate : (logic : Logic) (w : Whole) (caller : Client) (id : ℕ) (grain : Grain) (state : Tree) (failed : Bool)
      → GateRefuses logic w caller id grain (whole_step logic w (Poke failed caller id grain state))
