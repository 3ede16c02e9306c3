-- What each step does to the requests at its grain: their numbers stay apart, each is answered once or still waits or is open, and turns open and close as the step says.
use Rattle.silo_model.proofs.Common.{◌+◌, ◌∙◌, ◌∷◌, ◌≡◌, ◌≢◌, ◌≤◌, ◌⊎◌, Account, Change, Context, Effect, Entry, Err, Fault, Grain, List}
use Rattle.silo_model.proofs.Common.{Logic, None, Option, Outgoing, Party, ReadersAskNothing, Reply, Request, Result, Row, Some, Step}
use Rattle.silo_model.proofs.Common.{StorageFailed, Tree, [], accepted, ap, arith, at, change_option, cond, eq_by_cmp, false}
use Rattle.silo_model.proofs.Common.{false_from_ne_true, flat_map, get-insert_same, get-none, inl, inr, is_ready, keep, may_open, nat_cmp}
use Rattle.silo_model.proofs.Common.{nat_cmp-IsAntisymmetric, nat_cmp_total, none-some, on_entry, reads, refl, reply_to, sum_by}
use Rattle.silo_model.proofs.Common.{sum_by-append, sum_by-cons, sym, told, total, total-none, true, unloaded, with_request, with_sends, ℕ}
use Rattle.std.specs.FinMap as map
use Rattle.std.proofs.lemmas.List.Sums.{sum_by_push}
use Rattle.request_codec.specs.Call as codec
use Rattle.silo_event.specs.declared.reply.Party.TheVariants as party
use Rattle.silo_model.specs.Exclusive.{first_waiting, turn_of_first}
use Rattle.silo_model.proofs.Changes.{OfPut}
use Rattle.silo_model.proofs.TurnMaps.{Turns}
use Rattle.silo_model.proofs.Tests.{on_test}
use Rattle.silo_model.proofs.EffectKinds.{Does, IsLeft, Remains, Role, Stores, accepts, asks, begins, closes, ends, enters, goes, goes_on}
use Rattle.silo_model.proofs.EffectKinds.{opens, pokes, role_of, stays, tells, unloads, untouched, without}
use Rattle.silo_model.proofs.Fair.{FrontIsNew, IsFairEntry, closed_entry, held, idle_entry, may_with, no_turns, none_left, one_less}
use Rattle.silo_model.proofs.Fair.{one_more, opened_entry, same_number, still_open}

-- ---- what is weighed

-- the weight of the replies by their recipients, and of a request by its sender
abbrev pub replied : (Party → ℕ) → List Reply → ℕ
replied w replies = sum_by (λ r. w r.recipient) replies

abbrev pub sent : (Party → ℕ) → Request → ℕ
sent w q = w q.sender

-- a grain weighs nothing: it gets no answer to what it asked
abbrev pub Quiet : (Party → ℕ) → Type 0
Quiet w = (g : Grain) → w (party.Grain g) ≡ 0

-- what is asked, by what a step is to its owner
abbrev pub asked_in : (Party → ℕ) → Role → ℕ
asked_in w (asks p) = w p
asked_in w _ = 0

abbrev pub asked_by : (Party → ℕ) → Step → ℕ
asked_by w step = asked_in w (role_of step)

abbrev pub count_of : Option Account → ℕ
count_of None = 0
count_of (Some a) = a.count

-- ---- the open turns at a grain

abbrev pub turn_in : Option Entry → ℕ → Option Request
turn_in None n = None
turn_in (Some e) n = map.get e.turns n

abbrev pub KeepsTurns : Option Entry → Option Entry → Type 0
KeepsTurns old new = (n : ℕ) (q : Request) → turn_in old n ≡ Some q → turn_in new n ≡ Some q

abbrev pub ClosesTurn : ℕ → Option Entry → Option Entry → Type 0
ClosesTurn turn old new = (n : ℕ) (q : Request) → n ≢ turn → turn_in old n ≡ Some q → turn_in new n ≡ Some q

pub record OpensTurn (logic : Logic) (g : Grain) (old new : Option Entry) : Type 0 where
  pub first : Request
  pub waits : first_waiting g old ≡ record { grain = g; request = first } ∷ []
  pub there : turn_in new first.number ≡ Some first
  pub others : KeepsTurns old new
  pub together : (n : ℕ) (q : Request) → turn_in old n ≡ Some q → (reads logic g first ≡ true) × (reads logic g q ≡ true)

abbrev pub TurnsIn : Logic → Role → Option Entry → Option Entry → Type 0
TurnsIn logic (begins g) old new = OpensTurn logic g old new
TurnsIn logic (ends g turn) old new = ClosesTurn turn old new
TurnsIn logic _ old new = KeepsTurns old new

abbrev pub TurnsMove : Logic → Step → Option Entry → Option Entry → Type 0
TurnsMove logic step old new = TurnsIn logic (role_of step) old new

-- ---- what an effect does

-- an entry changes at a grain alone
abbrev pub IsPlaced : Change Entry → Option Grain → Type 0
IsPlaced keep grain = Unit {0}
IsPlaced _ None = ⊥
IsPlaced _ (Some g) = Unit {0}

abbrev pub IsFairAt : Logic → Option Grain → Entry → Type 0
IsFairAt logic None e = Unit {0}
IsFairAt logic (Some g) e = IsFairEntry logic g e

-- what is known of the entry that a step sees
abbrev pub SeesFair : Logic → Option Grain → Option Entry → Type 0
SeesFair logic grain found = (e : Entry) → found ≡ Some e → IsFairAt logic grain e × FrontIsNew e

abbrev pub Counted : Option Request → ℕ → ℕ → Type 0
Counted None count after = after ≡ count
Counted (Some q) count after = (q.number ≡ count + 1) × (after ≡ count + 1)

-- at most one request is new, and it has the next number
pub record NumbersMove (old new : Option Entry) (count after : ℕ) : Type 0 where
  pub request : Option Request
  pub holds : (f : Request → ℕ) → at (held f) new ≤ at (held f) old + at f request
  pub counted : Counted request count after

abbrev pub entry_after : Context → Effect → Option Entry
entry_after s e = change_option s.entry e.entry

pub record Moves (logic : Logic) (role : Role) (grain : Option Grain) (s : Context) (e : Effect) : Type 0 where
  pub placed : IsPlaced e.entry grain
  pub left : OfPut (IsFairAt logic grain) e.entry
  pub numbers : NumbersMove s.entry (entry_after s e) (count_of s.account) (count_of (change_option s.account e.account))
  pub balance : (w : Party → ℕ) → Quiet w
      → replied w e.replies + at (held (sent w)) (entry_after s e) ≡ at (held (sent w)) s.entry + asked_in w role
  pub turns : TurnsIn logic role s.entry (entry_after s e)

-- ---- replies alone

replied_told : (w : Party → ℕ) (p : Party) (outcome : Result Tree Fault) → replied w (told p outcome) ≡ w p
replied_told w p outcome = omega (arith, sum_by-cons (λ (r : Reply). w r.recipient) (record { recipient = p; outcome = outcome }) [])

replied_answered : (w : Party → ℕ) → Quiet w → (p : Party) (outcome : Result Tree Fault) → replied w (reply_to p outcome) ≡ w p
replied_answered w quiet (party.Client client id) outcome = replied_told w (party.Client client id) outcome
replied_answered w quiet (party.Grain g) outcome = sym (quiet g)

-- the asker is told, and no entry is touched
told_moves : (logic : Logic) (grain : Option Grain) (s : Context) (p : Party) (left : Change Account) (row : Change Row) (outcome : Result Tree Fault)
    → count_of (change_option s.account left) ≡ count_of s.account
    → Moves logic (asks p) grain s (record { account = left; entry = keep; row = row; replies = told p outcome })
told_moves logic grain s p left row outcome same = record {
  placed = tt;
  left = tt;
  numbers = record { request = None; holds = λ f. omega arith; counted = same };
  balance = λ w quiet. omega (arith, replied_told w p outcome);
  turns = λ n q found. found;
}

pub remains_count : {o : Option Account} {c : Change Account} → Remains o c → count_of (change_option o c) ≡ count_of o
remains_count untouched = refl
remains_count (without a g found is first) = ap count_of (sym is)

-- ---- calls

-- the request is held beside what was held
with_request_held : (clock : ℕ) (q : Request) (found : Option Entry) (f : Request → ℕ) → held f (with_request clock q found) ≡ at (held f) found + f q
with_request_held clock q None f = omega (arith, no_turns f, sum_by-cons f q [])
with_request_held clock q (Some e) f = omega (arith, sum_by_push f e.queue q)

with_request_fair : (logic : Logic) (g : Grain) (clock : ℕ) (q : Request) (found : Option Entry) → SeesFair logic (Some g) found → IsFairEntry logic g (with_request clock q found)
with_request_fair logic g clock q None sees = idle_entry logic g _ (map.len-empty nat_cmp Request)
with_request_fair logic g clock q (Some e) sees =
    let fair = (sees e refl).0 in
    record { keyed = fair.keyed; at_rest = fair.at_rest; alone = fair.alone }

with_request_turns : (clock : ℕ) (q : Request) (found : Option Entry) → KeepsTurns found (Some (with_request clock q found))
with_request_turns clock q None n r open_turn = absurd (none-some r open_turn)
with_request_turns clock q (Some e) n r open_turn = open_turn

accepted_moves : (logic : Logic) (s : Context) (p : Party) (g : Grain) (call : codec.Call) (a : Account) → a.count ≡ count_of s.account
    → SeesFair logic (Some g) s.entry → Moves logic (asks p) (Some g) s (accepted s p call a)
accepted_moves logic s p g call a count sees =
    let q : Request = record { number = a.count + 1; sender = p; call = call } in
    record {
      placed = tt;
      left = with_request_fair logic g s.clock q s.entry sees;
      numbers = record {
        request = Some q;
        holds = λ f. omega (arith, with_request_held s.clock q s.entry f);
        counted = (ap (λ n. n + 1) count, ap (λ n. n + 1) count);
      };
      balance = λ w quiet. omega (arith, with_request_held s.clock q s.entry (sent w));
      turns = with_request_turns s.clock q s.entry;
    }

-- ---- what is done to an entry that is there

module _ (logic : Logic) (s : Context) (g : Grain) (e : Entry) (is : s.entry ≡ Some e) where
  held_is : (f : Request → ℕ) → at (held f) s.entry ≡ held f e
  held_is f = ap (at (held f)) is

  turn_is : (n : ℕ) (q : Request) → turn_in s.entry n ≡ Some q → map.get e.turns n ≡ Some q
  turn_is n q open_turn = sym (ap (λ o. turn_in o n) is) ∙ open_turn

  -- an entry that holds as much
  on_entry_moves : (role : Role) (new : Entry) → ((w : Party → ℕ) → asked_in w role ≡ 0) → IsFairEntry logic g new
      → ((f : Request → ℕ) → held f new ≡ held f e) → TurnsIn logic role s.entry (Some new)
      → Moves logic role (Some g) s (on_entry new)
  on_entry_moves role new silent fair same turns = record {
    placed = tt;
    left = fair;
    numbers = record { request = None; holds = λ f. omega (arith, same f, held_is f); counted = refl };
    balance = λ w quiet. omega (arith, same (sent w), held_is (sent w), silent w);
    turns = turns;
  }

  -- ---- loading

  all_told : (w : Party → ℕ) → Quiet w → (queue : List Request) → replied w (flat_map (λ q. reply_to q.sender (Err StorageFailed)) queue) ≡ sum_by (sent w) queue
  all_told w quiet [] = refl
  all_told w quiet (q ∷ queue) =
      sum_by-append (λ (r : Reply). w r.recipient) (reply_to q.sender (Err StorageFailed)) (flat_map (λ x. reply_to x.sender (Err StorageFailed)) queue)
      ∙ (λ i. replied_answered w quiet q.sender (Err StorageFailed) i + all_told w quiet queue i)
      ∙ sym (sum_by-cons (sent w) q queue)

  unloaded_moves : map.len e.turns ≡ 0 → Moves logic (enters g) (Some g) s (unloaded e)
  unloaded_moves none = record {
    placed = tt;
    left = tt;
    numbers = record { request = None; holds = λ f. omega arith; counted = refl };
    balance = λ w quiet. omega (arith, all_told w quiet e.queue, held_is (sent w), total-none (sent w) e.turns none);
    turns = λ n q open_turn. absurd (none-some q (sym (get-none e.turns n none) ∙ turn_is n q open_turn));
  }

  -- ---- opening a turn

  abbrev with_turn : Request → List Request → Entry
  with_turn first others = record e { queue = others; turns = map.insert e.turns first.number first }

  opened_moves : (first : Request) (others : List Request) → e.queue ≡ first ∷ others → IsFairEntry logic g e → is_ready e.phase ≡ true → map.get e.turns first.number ≡ None → may_open logic g e first ≡ true
      → Moves logic (begins g) (Some g) s (on_entry (with_turn first others))
  opened_moves first others queue fair is_open new may =
      on_entry_moves (begins g) (with_turn first others) (λ w. refl) (opened_entry logic g e first may others fair is_open new)
      (λ f. omega (arith, one_more f e.turns first.number first new, ap (sum_by f) queue, sum_by-cons f first others))
      (record {
        first = first;
        waits = ap (first_waiting g) is ∙ ap (turn_of_first g) queue;
        there = get-insert_same nat_cmp_total nat_cmp-IsAntisymmetric e.turns first.number first;
        others = λ n q open_turn. kept n q (turn_is n q open_turn);
        together = λ n q open_turn. may_with logic g e first may n q (turn_is n q open_turn);
      })
    where
      -- the number is new, so no turn that is open goes
      kept : (n : ℕ) (q : Request) → map.get e.turns n ≡ Some q → map.get (map.insert e.turns first.number first) n ≡ Some q
      kept n q open_turn =
          map.get-insert nat_cmp_total e.turns first.number first n
          ∙ on_test (λ b. cond b (Some first) (map.get e.turns n) ≡ Some q) (eq_by_cmp nat_cmp n first.number)
          (λ tied. absurd (none-some q (sym new ∙ ap (map.get e.turns) (sym (same_number n first.number tied)) ∙ open_turn))) (λ _. open_turn)

  -- ---- closing a turn

  module _ (turn : ℕ) (request : Request) (fair : IsFairEntry logic g e) (open_turn : map.get e.turns turn ≡ Some request) where
    number_is : request.number ≡ turn
    number_is = fair.keyed turn request open_turn

    there : map.get e.turns request.number ≡ Some request
    there = ap (map.get e.turns) number_is ∙ open_turn

    abbrev Closing : Change Account → Change Entry → Change Row → Result Tree Fault → Type 0
    Closing account left row outcome =
        Moves logic (ends g turn) (Some g) s (record { account = account; entry = left; row = row; replies = reply_to request.sender outcome })

    -- what is held without the turn
    less : (f : Request → ℕ) → sum_by f e.queue + total f (map.remove e.turns request.number) + f request ≡ held f e
    less f = omega (arith, one_less f e.turns request.number request there)

    less_held : (new : Entry) → new.queue ≡ e.queue → new.turns ≡ map.remove e.turns request.number → (f : Request → ℕ) → held f new + f request ≡ held f e
    less_held new queue turns f = (λ i. sum_by f (queue i) + total f (turns i) + f request) ∙ less f

    others_stay : (n : ℕ) (q : Request) → n ≢ turn → turn_in s.entry n ≡ Some q → map.get (map.remove e.turns request.number) n ≡ Some q
    others_stay n q apart found = still_open e.turns request.number n q (λ same. apart (same ∙ number_is)) (turn_is n q found)

    -- a turn that asks for the storage isn't one that only reads, and so was alone
    was_alone : ReadersAskNothing logic → Stores logic g request → map.len (map.remove e.turns request.number) ≡ 0
    was_alone law stores =
        none_left e.turns request.number request there
        (fair.alone request.number request there
        (false_from_ne_true (reads logic g request) (λ only. stores.1 (law g.kind request.call.method stores.0 request.call.argument only))))

    none_open : ReadersAskNothing logic → (map.len (map.remove e.turns request.number) ≡ 0) ⊎ Stores logic g request
        → map.len (map.remove e.turns request.number) ≡ 0
    none_open law (inl none) = none
    none_open law (inr stores) = was_alone law stores

    no_turn : ReadersAskNothing logic → (is_ready e.phase ≡ false) ⊎ Stores logic g request
        → map.len (map.remove e.turns request.number) ≡ 0
    no_turn law (inl rests) = absurd (none-some request (sym (get-none e.turns turn (fair.at_rest rests)) ∙ open_turn))
    no_turn law (inr stores) = was_alone law stores

    closed_moves : ReadersAskNothing logic
        → (account : Change Account) {left : Change Entry} (row : Change Row) (outcome : Result Tree Fault)
        → count_of (change_option s.account account) ≡ count_of s.account
        → IsLeft logic g e request left → Closing account left row outcome
    closed_moves law account row outcome same (stays new queue turns rest said) = record {
      placed = tt;
      left = closed_entry logic g e new request.number request fair there turns (λ rests. no_turn law (rest rests));
      numbers = record { request = None; holds = λ f. omega (arith, less_held new queue turns f, held_is f); counted = same };
      balance = λ w quiet. omega (
        arith,
        less_held new queue turns (sent w),
        held_is (sent w),
        replied_answered w quiet request.sender outcome,
      );
      turns = λ n q apart found. ap (λ (t : Turns). map.get t n) turns ∙ others_stay n q apart found;
    }
    closed_moves law account row outcome same (goes is_empty alone) =
        let none = none_open law alone in
        let left_turns : Turns = map.remove e.turns request.number in
        record {
          placed = tt;
          left = tt;
          numbers = record { request = None; holds = λ f. omega arith; counted = same };
          balance = λ w quiet. omega (
            arith,
            less (sent w),
            total-none (sent w) left_turns none,
            ap (sum_by (sent w)) is_empty,
            held_is (sent w),
            replied_answered w quiet request.sender outcome,
          );
          turns = λ n q apart found. absurd (none-some q (sym (get-none left_turns n none) ∙ others_stay n q apart found));
        }

pub count-with_sends : (g : Grain) (account : Option Account) (sends : List Outgoing)
    → count_of (change_option account (with_sends g account sends)) ≡ count_of account
count-with_sends g account [] = refl
count-with_sends g None (o ∷ os) = refl
count-with_sends g (Some a) (o ∷ os) = refl

-- ---- every step

pub does_moves : (logic : Logic) → ReadersAskNothing logic → (s : Context) (step : Step) {role : Role} {grain : Option Grain} {e : Effect}
    → SeesFair logic grain s.entry → Does logic s step role grain e → Moves logic role grain s e
does_moves logic law s step sees (tells p grain left outcome remains) = told_moves logic grain s p left keep outcome (remains_count remains)
does_moves logic law s step sees (pokes p g row outcome own touches) = told_moves logic (Some g) s p keep row outcome refl
does_moves logic law s step sees (accepts p g call left a own remains known) =
    accepted_moves logic s p g call a (sym (ap count_of known) ∙ remains_count remains) sees
does_moves logic law s step sees (goes_on g e phase until resting found rests entered) =
    on_entry_moves logic s g e found (enters g) _ (λ w. refl) (idle_entry logic g _ ((sees e found).0.at_rest rests)) (λ f. refl)
    (turn_is logic s g e found)
does_moves logic law s step sees (unloads g e found rests) = unloaded_moves logic s g e found ((sees e found).0.at_rest rests)
does_moves logic law s step sees (opens g e first others found is_open queue may) =
    opened_moves logic s g e found first others queue (sees e found).0 is_open ((sees e found).1 first others queue) may
does_moves logic law s step sees (closes g turn e request left sends row outcome found open_turn is_left by_sends by_row) =
    closed_moves logic s g e found turn request (sees e found).0 open_turn law (with_sends g s.account sends) row outcome
    (count-with_sends g s.account sends) is_left
