-- What grains are told of what they sent: only why a delivery was refused.
use Rattle.std.specs.Prelude.{◌++◌, ◌∷◌, ◌≡◌, ◌≢◌, ◌≤◌, Bool, Err, List, None, Option, Some, ℕ, [], false, length, true}
use Rattle.std.specs.FinMap as map
use Rattle.grain_id.specs.Names.{Grain}
use Rattle.silo_event.specs.Fault.{fault_code}
use Rattle.silo_event.specs.declared.fault.Fault.{Fault}
use Rattle.silo_event.specs.declared.reply.Party.TheVariants as party
use Rattle.silo_event.specs.declared.step.Step.TheVariants.{Abandon, Deliver, End, Load, Store}
use Rattle.grain_logic.specs.Logic.{Logic}
use Rattle.silo_model.specs.Machine.{Account, Entry, Request, Send, loading}
use Rattle.silo_model.specs.Calls.{told}
use Rattle.silo_model.specs.Sends.{first_from}
use Rattle.silo_model.specs.Whole.{Whole, whole_step}
use Rattle.silo_laws.specs.Refusals.{entries_of, no_number_after}

-- The delivery is done: the grain that sent it is told a fault of this code, what it sent is gone, and nothing else changed.
abbrev pub IsSentBack : Whole → Option Whole → Grain → Account → List Send → ℕ → Type 0
IsSentBack w result grain a others code =
    (why : Fault) × (fault_code why ≡ code)
    × (result
    ≡ Some (record w {
      accounts = map.insert w.accounts grain.tenant (record a { sends = others });
      replies = w.replies ++ told (party.Grain grain) (Err why);
    }))

-- A delivery is refused by the rule of calls, and by the same codes.
pub record DeliveryRefuses (logic : Logic) (w : Whole) (grain : Grain) (a : Account) (sent : Send) (others : List Send)
    (result : Option Whole) : Type 0 where
  pub across : sent.message.target.tenant ≢ grain.tenant → IsSentBack w result grain a others 40
  pub unknown_kind : sent.message.target.tenant ≡ grain.tenant → logic.knows sent.message.target.kind ≡ false
      → IsSentBack w result grain a others 22
  pub no_number : sent.message.target.tenant ≡ grain.tenant → logic.knows sent.message.target.kind ≡ true → a.count ≡ no_number_after
      → IsSentBack w result grain a others 43
  pub no_activation : sent.message.target.tenant ≡ grain.tenant → logic.knows sent.message.target.kind ≡ true → a.count ≢ no_number_after
      → map.get w.entries sent.message.target ≡ None → a.limits.activations ≤ entries_of w grain.tenant
      → IsSentBack w result grain a others 41
  pub mailbox_full : (e : Entry)
      → sent.message.target.tenant ≡ grain.tenant → logic.knows sent.message.target.kind ≡ true → a.count ≢ no_number_after
      → map.get w.entries sent.message.target ≡ Some e → a.limits.mailbox ≤ length e.queue
      → IsSentBack w result grain a others 42

-- the turn is open, and a grain sent its request
pub record IsForGrain (w : Whole) (grain : Grain) (turn : ℕ) : Type 0 where
  pub entry : Entry
  pub request : Request
  pub source : Grain
  pub found : map.get w.entries grain ≡ Some entry
  pub open_turn : map.get entry.turns turn ≡ Some request
  pub sender : request.sender ≡ party.Grain source

-- Of a delivery that is refused one reply is added, to the grain that sent it. Of a request that a grain sent and that is
-- closed none is: by whichever step, and also if its target can't be loaded.
pub record GrainsAreTold : Type 0 where
  pub deliveries : (logic : Logic) (w : Whole) (grain : Grain) (a : Account) (sent : Send) (others : List Send)
      → map.get w.accounts grain.tenant ≡ Some a → first_from grain a.sends ≡ Some (sent, others)
      → DeliveryRefuses logic w grain a sent others (whole_step logic w (Deliver grain))
  pub ends : (logic : Logic) (w after : Whole) (grain : Grain) (turn : ℕ) → IsForGrain w grain turn
      → whole_step logic w (End grain turn) ≡ Some after → after.replies ≡ w.replies
  pub stores : (logic : Logic) (w after : Whole) (grain : Grain) (turn : ℕ) (failed : Bool) → IsForGrain w grain turn
      → whole_step logic w (Store grain turn failed) ≡ Some after → after.replies ≡ w.replies
  pub abandons : (logic : Logic) (w after : Whole) (grain : Grain) (turn : ℕ) → IsForGrain w grain turn
      → whole_step logic w (Abandon grain turn) ≡ Some after → after.replies ≡ w.replies
  pub loads : (logic : Logic) (w after : Whole) (grain source : Grain) (e : Entry) (request : Request)
      → map.get w.entries grain ≡ Some e → e.phase ≡ loading → e.queue ≡ request ∷ [] → request.sender ≡ party.Grain source
      → whole_step logic w (Load grain true) ≡ Some after → after.replies ≡ w.replies
