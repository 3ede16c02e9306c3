-- What a step does stays with its owner.
use Rattle.silo_model.proofs.Common.{◌++◌, ◌∙◌, ◌∷◌, ◌≡◌, Change, Context, Effect, Entry, Err, Fault, Grain, List, Logic, None, Option}
use Rattle.silo_model.proofs.Common.{Party, Reply, Request, Result, Some, Step, StorageFailed, Tree, [], flat_map, reply_to, same_Some}
use Rattle.silo_model.proofs.Common.{subst, sym, tenant_of, ℕ}
use Rattle.silo_event.specs.declared.reply.Party.TheVariants as party
use Rattle.silo_model.proofs.Changes.{OfPut, WhereChanged, WhereChanged-holds}
use Rattle.silo_model.proofs.EffectKinds.{Does, IsLeft, Role, accepts, closes, goes, goes_on, opens, pokes, role_owner, stays, tells}
use Rattle.silo_model.proofs.EffectKinds.{unloads}
use Rattle.silo_model.proofs.Sound.{AllFrom, AreOpenFrom, IsEntryOf, insert-AreOpenFrom, remove-AreOpenFrom, with_request-IsEntryOf}

-- each of the replies is to the tenant
abbrev pub AllTo : List ℕ → List Reply → Type 0
AllTo tenant [] = Unit {0}
AllTo tenant (r ∷ replies) = (tenant_of r.recipient ≡ tenant) × AllTo tenant replies

-- the grain, where there is one, is the tenant's
abbrev pub IsAt : List ℕ → Option Grain → Type 0
IsAt tenant None = Unit {0}
IsAt tenant (Some g) = g.tenant ≡ tenant

-- It touches an entry or a row at a grain of the tenant alone, leaves an entry of the tenant there, and replies to the tenant's parties.
pub record IsProper (tenant : List ℕ) (grain : Option Grain) (e : Effect) : Type 0 where
  pub entry : WhereChanged e.entry (IsAt tenant grain)
  pub row : WhereChanged e.row (IsAt tenant grain)
  pub left : OfPut (IsEntryOf tenant) e.entry
  pub replies : AllTo tenant e.replies

-- what is known of the entry that a step sees
abbrev pub SeesOwn : List ℕ → Option Entry → Type 0
SeesOwn tenant found = (e : Entry) → found ≡ Some e → IsEntryOf tenant e

answered_to : (tenant : List ℕ) (sender : Party) (outcome : Result Tree Fault) → tenant_of sender ≡ tenant → AllTo tenant (reply_to sender outcome)
answered_to tenant (party.Client client id) outcome from = (from, tt)
answered_to tenant (party.Grain grain) outcome from = tt

AllTo-append : (tenant : List ℕ) (first others : List Reply) → AllTo tenant first → AllTo tenant others → AllTo tenant (first ++ others)
AllTo-append tenant [] others h k = k
AllTo-append tenant (r ∷ first) others h k = (h.0, AllTo-append tenant first others h.1 k)

all_failed_to : (tenant : List ℕ) (queue : List Request) → AllFrom tenant queue → AllTo tenant (flat_map (λ q. reply_to q.sender (Err StorageFailed)) queue)
all_failed_to tenant [] from = tt
all_failed_to tenant (q ∷ queue) from = AllTo-append tenant (reply_to q.sender (Err StorageFailed)) _ (answered_to tenant q.sender (Err StorageFailed) from.0) (all_failed_to tenant queue from.1)

-- an entry of the tenant without a turn
left_of : (logic : Logic) (g : Grain) (tenant : List ℕ) (e : Entry) (request : Request) {left : Change Entry} → IsEntryOf tenant e
    → IsLeft logic g e request left → OfPut (IsEntryOf tenant) left
left_of logic g tenant e request entry (stays new queue turns rest said) = record {
  queue = subst (AllFrom tenant) (sym queue) entry.queue;
  turns = subst (AreOpenFrom tenant) (sym turns) (remove-AreOpenFrom tenant e.turns request.number entry.turns);
}
left_of logic g tenant e request entry (goes is_empty alone) = tt

-- an entry is touched at a grain of the tenant alone
pub does_placed : (logic : Logic) (s : Context) (step : Step) (tenant : List ℕ) {role : Role} {grain : Option Grain} {e : Effect}
    → role_owner role ≡ Some tenant → s.tenant ≡ tenant → Does logic s step role grain e → WhereChanged e.entry (IsAt tenant grain)
does_placed logic s step tenant owner is (accepts p g call left a own remains known) = own ∙ is
does_placed logic s step tenant owner is (goes_on g e phase until resting found rests entered) = same_Some g.tenant tenant owner
does_placed logic s step tenant owner is (unloads g e found rests) = same_Some g.tenant tenant owner
does_placed logic s step tenant owner is (opens g e first others found is_open queue may) = same_Some g.tenant tenant owner
does_placed logic s step tenant owner is (closes g turn e request left sends row outcome found open_turn is_left by_sends by_row) =
    WhereChanged-holds left (same_Some g.tenant tenant owner)
does_placed logic s step tenant owner is _ = tt

-- each effect is such a one
pub does_proper : (logic : Logic) (s : Context) (step : Step) (tenant : List ℕ) {role : Role} {grain : Option Grain} {e : Effect}
    → role_owner role ≡ Some tenant → s.tenant ≡ tenant → SeesOwn tenant s.entry → Does logic s step role grain e → IsProper tenant grain e
does_proper logic s step tenant owner is sees (tells p grain left outcome remains) =
    record { entry = tt; row = tt; left = tt; replies = (same_Some (tenant_of p) tenant owner, tt) }
does_proper logic s step tenant owner is sees (pokes p g row outcome own touches) =
    record { entry = tt; row = WhereChanged-holds row (own ∙ is); left = tt; replies = (same_Some (tenant_of p) tenant owner, tt) }
does_proper logic s step tenant owner is sees (accepts p g call left a own remains known) =
    let from : tenant_of p ≡ tenant = same_Some (tenant_of p) tenant owner in
    record { entry = own ∙ is; row = tt; left = with_request-IsEntryOf tenant s.clock _ s.entry from sees; replies = tt }
does_proper logic s step tenant owner is sees (goes_on g e phase until resting found rests entered) =
    let there : IsEntryOf tenant e = sees e found in
    record { entry = same_Some g.tenant tenant owner; row = tt; left = record { queue = there.queue; turns = there.turns }; replies = tt }
does_proper logic s step tenant owner is sees (unloads g e found rests) =
    record { entry = same_Some g.tenant tenant owner; row = tt; left = tt; replies = all_failed_to tenant e.queue (sees e found).queue }
does_proper logic s step tenant owner is sees (opens g e first others found is_open queue may) =
    let waits : AllFrom tenant (first ∷ others) = subst (AllFrom tenant) queue (sees e found).queue in
    let turns = insert-AreOpenFrom tenant e.turns first (sees e found).turns waits.0 in
    record { entry = same_Some g.tenant tenant owner; row = tt; left = record { queue = waits.1; turns = turns }; replies = tt }
does_proper logic s step tenant owner is sees (closes g turn e request left sends row outcome found open_turn is_left by_sends by_row) =
    let own : g.tenant ≡ tenant = same_Some g.tenant tenant owner in
    record {
      entry = WhereChanged-holds left own;
      row = WhereChanged-holds row own;
      left = left_of logic g tenant e request (sees e found) is_left;
      replies = answered_to tenant request.sender outcome ((sees e found).turns turn request open_turn).0;
    }
