-- Every request is answered once, or still waits or is open.
use Rattle.std.specs.Prelude.{◌≡◌, ℕ, ◌+◌, Bool, false, ◌&&◌, List, ◌++◌, map, ◌==◌, nat_eq, count_by, flat_map}
use Rattle.std.specs.List.{IsDistinct}
use Rattle.std.specs.FinMap as finite
use Rattle.grain_id.specs.Names.{Client, client_eq}
use Rattle.silo_event.specs.declared.reply.Party.{Party}
use Rattle.silo_event.specs.declared.reply.Party.TheVariants as party
use Rattle.silo_event.specs.declared.step.Step.{Step}
use Rattle.silo_event.specs.declared.step.Step.TheVariants.{Refuse, Call, Poke, Status}
use Rattle.grain_logic.specs.Logic.{Logic}
use Rattle.grain_logic.specs.Laws.{ReadersAskNothing}
use Rattle.silo_model.specs.Machine.{Machine, Entry, Request}
use Rattle.silo_model.specs.Whole.{Whole, shown_to}
use Rattle.silo_model.specs.Run.{whole_run, restricted_to}
use Rattle.silo_model.specs.Opening.{Setup, opening}
use Rattle.silo_model.specs.Journal.{LeadsTo}

-- the client asks something by this step, under this number
abbrev pub asks : Client → ℕ → Step → Bool
asks client id (Refuse caller n code) = client_eq caller client && (n == id)
asks client id (Call caller n grain message) = client_eq caller client && (n == id)
asks client id (Poke failed caller n grain state) = client_eq caller client && (n == id)
asks client id (Status caller n) = client_eq caller client && (n == id)
asks client id _ = false

abbrev pub is_client_with : Client → ℕ → Party → Bool
is_client_with client id (party.Client caller n) = client_eq caller client && (n == id)
is_client_with client id (party.Grain grain) = false

-- the requests that wait at a grain, and those that are open there
abbrev pub pending_at : Entry → List Request
pending_at e = e.queue ++ finite.values e.turns

abbrev pub all_pending : Machine → List Request
all_pending m = flat_map pending_at (finite.values m.entries)

-- What a client asked under a number is as much as the replies to it, and the requests of it that wait or are open. No
-- two of these requests have one number.
pub record Settled (steps : List Step) (m : Machine) : Type 0 where
  pub answered : (client : Client) (id : ℕ) → count_by (asks client id) steps
      ≡ count_by (λ r. is_client_with client id r.recipient) m.replies + count_by (λ q. is_client_with client id q.sender) (all_pending m)
  pub numbers : IsDistinct nat_eq (map (λ q. q.number) (all_pending m))

-- Each tenant's part is settled after every list of steps, by those that concern it: so at every moment of a run.
abbrev pub RunsSettle : Type 0
RunsSettle = (logic : Logic) → ReadersAskNothing logic → (setup : Setup) (tenant : List ℕ) (steps : List Step)
    → Settled (restricted_to tenant steps) (shown_to tenant (whole_run logic (opening setup) steps))

-- So is the part of a whole that a journal leads to, by the journal's own steps.
abbrev pub JournalsSettle : Type 0
JournalsSettle = (logic : Logic) → ReadersAskNothing logic → (setup : Setup) (journal : List Step) (w : Whole) (tenant : List ℕ)
    → LeadsTo logic setup journal w → Settled (restricted_to tenant journal) (shown_to tenant w)
