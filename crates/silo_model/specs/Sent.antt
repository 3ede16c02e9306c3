-- What a turn sends arrives: the laws of deliveries are said of a silo that delivers something.
use Rattle.std.specs.Prelude.{◌≡◌, ◌≢◌, ℕ, ◌+◌, List, [], ◌∷◌, ◌++◌, Option, Some, None, true, false, nat_lt, ◌==◌}
use Rattle.std.specs.List.{list_any}
use Rattle.std.specs.FinMap as map
use Rattle.grain_id.specs.Names.{Grain, grain_eq}
use Rattle.request_codec.specs.Tree.{Tree}
use Rattle.silo_event.specs.declared.reply.Party.TheVariants as party
use Rattle.silo_event.specs.declared.step.Step.TheVariants.{Deliver, End}
use Rattle.grain_logic.specs.Logic.{Logic, Outgoing, asks_nothing}
use Rattle.silo_model.specs.Machine.{Account, Entry, Request, waiting, ready}
use Rattle.silo_model.specs.Calls.{last_number}
use Rattle.silo_model.specs.Turns.{plan_of, sent_by}
use Rattle.silo_model.specs.Whole.{Whole, is_of, whole_step}

-- A turn of the grain is about to send this first, with nothing of the grain's left to deliver: to a grain of its
-- tenant that may have an entry, and has none.
pub record IsSending (logic : Logic) (w : Whole) (grain : Grain) (turn : ℕ) (account : Account) (outgoing : Outgoing) : Type 0 where
  pub entry : Entry
  pub request : Request
  pub state : Tree
  pub version : Option ℕ
  pub others : List Outgoing
  pub found : map.get w.entries grain ≡ Some entry
  pub open_turn : map.get entry.turns turn ≡ Some request
  pub phase : entry.phase ≡ ready state version
  pub asks : (plan_of logic grain state request).storage ≡ asks_nothing
  pub sends : (plan_of logic grain state request).sends ≡ outgoing ∷ others
  pub known : map.get w.accounts grain.tenant ≡ Some account
  pub none_before : list_any (λ sent. grain_eq sent.source grain) account.sends ≡ false
  pub own : outgoing.target.tenant ≡ grain.tenant
  pub another : outgoing.target ≢ grain
  pub knows : logic.knows outgoing.target.kind ≡ true
  pub number_left : (account.count == last_number) ≡ false
  pub absent : map.get w.entries outgoing.target ≡ None
  pub room : nat_lt (map.len (map.retain_keys w.entries (is_of grain.tenant))) account.limits.activations ≡ true

-- The turn ends, the next delivery is done, and the call waits at its target, asked by the grain. What the tenant's
-- other grains sent, and the rest of what the turn sent, is left in its order.
abbrev pub SentArrives : Type 0
SentArrives =
    (logic : Logic) (w : Whole) (grain : Grain) (turn : ℕ) (account : Account) (outgoing : Outgoing)
    (sending : IsSending logic w grain turn account outgoing)
    → (sent : Whole) × (delivered : Whole) × (whole_step logic w (End grain turn) ≡ Some sent)
    × (whole_step logic sent (Deliver grain) ≡ Some delivered)
    × (map.get delivered.entries outgoing.target
    ≡ Some (record {
      phase = waiting;
      queue = record { number = account.count + 1; sender = party.Grain grain; call = outgoing.call } ∷ [];
      turns = map.empty;
      last = w.clock;
      until = 0;
      resting = false;
    }))
    × (map.get delivered.accounts grain.tenant
    ≡ Some (record account { count = account.count + 1; sends = account.sends ++ sent_by grain sending.others }))
