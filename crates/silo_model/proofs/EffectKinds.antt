-- What an effect can be: each step's is one of a few, so that what holds of each of these holds of every step.
use Rattle.silo_model.proofs.Common.{if◌then◌else◌, ◌&&◌, ◌==◌, ◌∙◌, ◌∷◌, ◌≡◌, ◌⊎◌, Abandon, Account, AcrossTenants, Activate, Begin, Bool}
use Rattle.silo_model.proofs.Common.{Call, Change, Context, Deliver, Effect, End, Entry, Err, Fault, Grain, Keep, List, Load, Logic}
use Rattle.silo_model.proofs.Common.{MailboxFull, NoActivation, NoMemory, NoNumber, None, Ok, Option, Outgoing, Party, Phase, Plan, Poke}
use Rattle.silo_model.proofs.Common.{Refuse, Request, Result, Row, RowFault, Send, Some, StateChanged, Status, Step, StorageCall}
use Rattle.silo_model.proofs.Common.{StorageFailed, Store, Sweep, Tick, Tree, UnknownKind, [], abandoned_entry, accepted, activated}
use Rattle.silo_model.proofs.Common.{and_parts, and_right, ap, asks_nothing, called, change_option, clears_row, closed, closed_entry}
use Rattle.silo_model.proofs.Common.{content_or, drop, effect_of, ends_activation, false, first_from, first_target, gate, grain_eq}
use Rattle.silo_model.proofs.Common.{grain_of, inl, inr, is_idle, is_ready, keep, last_number, length, loaded, loading, may_open, nat_lt}
use Rattle.silo_model.proofs.Common.{on_entry, opened, opened_if_ready, option_and_then, option_map, owner_of, plan_of, poke_settled, poked}
use Rattle.silo_model.proofs.Common.{put, reads_row, ready, refl, reply_to, resting_by, row_changed, row_poked, row_told, row_written, same}
use Rattle.silo_model.proofs.Common.{same_text, same_text_decides, sender_by, spent, stale, stays_or_goes, stored, stored_by, subst, sym}
use Rattle.silo_model.proofs.Common.{tenant_of, told, true, true≢false, unloaded, until_by, version_of, waiting, with_sends, writes_row, ℕ}
use Rattle.std.specs.FinMap as map
use Rattle.request_codec.specs.Call as codec
use Rattle.silo_event.specs.declared.reply.Party.TheVariants as party
use Rattle.silo_model.specs.Calls.{admitted, call_settled, kind_gate, room}
use Rattle.silo_model.specs.Asks.{status_told}
use Rattle.silo_model.specs.Sends.{delivered, delivered_to, on_account}
use Rattle.silo_model.specs.Stores.{row_cleared}
use Rattle.silo_model.specs.Turns.{abandoned, ended, ended_by, without_turn}
use Rattle.silo_model.specs.Step.{at_turn}
use Rattle.silo_model.specs.Saved.{touches_row}
use Rattle.silo_model.proofs.TurnMaps.{Turns}
use Rattle.silo_model.proofs.Tests.{on_found, on_test}
use Rattle.silo_model.proofs.Leaving.{idle_parts, stays_or_goes_by}

-- ---- what a step is to its owner

-- A party asks for something; or at a grain an entry goes on, a turn begins, or a turn ends; or it is nobody's.
pub data Role : Type 0 where
  asks : Party → Role
  enters : Grain → Role
  begins : Grain → Role
  ends : Grain → ℕ → Role
  nobodys : Role

abbrev pub role_of : Step → Role
role_of (Refuse caller id code) = asks (party.Client caller id)
role_of (Call caller id grain message) = asks (party.Client caller id)
role_of (Poke failed caller id grain state) = asks (party.Client caller id)
role_of (Status caller id) = asks (party.Client caller id)
role_of (Deliver grain) = asks (party.Grain grain)
role_of (Activate grain) = enters grain
role_of (Load grain failed) = enters grain
role_of (Begin grain) = begins grain
role_of (Store grain turn failed) = ends grain turn
role_of (End grain turn) = ends grain turn
role_of (Abandon grain turn) = ends grain turn
role_of (Tick now) = nobodys
role_of Sweep = nobodys

abbrev pub role_owner : Role → Option (List ℕ)
role_owner (asks p) = Some (tenant_of p)
role_owner (enters g) = Some g.tenant
role_owner (begins g) = Some g.tenant
role_owner (ends g turn) = Some g.tenant
role_owner nobodys = None

pub owner_is : (step : Step) → role_owner (role_of step) ≡ owner_of step
owner_is Sweep = refl
owner_is _ = refl

-- ---- what an effect can be

-- what an account comes to: itself, or without the first that a grain sent
pub data Remains (o : Option Account) : Change Account → Type 0 where
  untouched : Remains o keep
  without : (a : Account) (g : Grain) (found : Send × List Send) → o ≡ Some a → first_from g a.sends ≡ Some found
      → Remains o (put (record a { sends = found.1 }))

-- the request may ask for the storage
abbrev pub Stores : Logic → Grain → Request → Type 0
Stores logic g request = (state : Tree) × ((plan_of logic g state request).storage ≡ asks_nothing → ⊥)

-- what a turn that closes may say of the activation: nothing, or what its plan says
abbrev pub MaySay : Logic → Grain → Request → Keep → Type 0
MaySay logic g request said = (said ≡ same) ⊎ ((state : Tree) × ((plan_of logic g state request).keep ≡ said))

-- The entry stays and rests as the turn said, and isn't one that rests and is idle.
pub record IsAsSaid (logic : Logic) (g : Grain) (e : Entry) (request : Request) (new : Entry) : Type 0 where
  pub said : Keep
  pub may_say : MaySay logic g request said
  pub clock : ℕ
  pub until : new.until ≡ until_by clock said e.until
  pub resting : new.resting ≡ resting_by said e.resting
  pub busy : new.resting && is_idle new ≡ false

-- what an entry comes to where a turn is closed: it holds what it held but for the turn, or is gone
pub data IsLeft (logic : Logic) (g : Grain) (e : Entry) (request : Request) : Change Entry → Type 0 where
  stays : (new : Entry) → new.queue ≡ e.queue → new.turns ≡ map.remove e.turns request.number
      → (is_ready new.phase ≡ false → (is_ready e.phase ≡ false) ⊎ Stores logic g request) → IsAsSaid logic g e request new
      → IsLeft logic g e request (put new)
  goes : e.queue ≡ [] → (map.len (map.remove e.turns request.number) ≡ 0) ⊎ Stores logic g request → IsLeft logic g e request drop

-- the step may change the row of this grain, and of no other
abbrev pub Touches : Step → Grain → Type 0
Touches step g = (h : Grain) → touches_row h step ≡ grain_eq g h

-- an entry that isn't ready goes on as it was, or it gets ready, and then neither stays nor rests
abbrev pub IsEntered : Entry → Phase → ℕ → Bool → Type 0
IsEntered e phase until resting =
    ((is_ready phase ≡ false) × (until ≡ e.until) × (resting ≡ e.resting)) ⊎ ((until ≡ 0) × (resting ≡ false))

-- What the step does, by what it is to its owner, at its grain or at none.
pub data Does (logic : Logic) (s : Context) (step : Step) : Role → Option Grain → Effect → Type 0 where
  -- the asker is told something
  tells : (p : Party) (grain : Option Grain) (left : Change Account) (outcome : Result Tree Fault) → Remains s.account left
      → Does logic s step (asks p) grain (record { account = left; entry = keep; row = keep; replies = told p outcome })
  -- it is told what became of the row
  pokes : (p : Party) (g : Grain) (row : Change Row) (outcome : Result Tree Fault) → g.tenant ≡ s.tenant → Touches step g
      → Does logic s step (asks p) (Some g) (record { account = keep; entry = keep; row = row; replies = told p outcome })
  -- its request waits
  accepts : (p : Party) (g : Grain) (call : codec.Call) (left : Change Account) (a : Account) → g.tenant ≡ s.tenant → Remains s.account left
      → change_option s.account left ≡ Some a
      → Does logic s step (asks p) (Some g) (accepted s p call a)
  -- an entry that isn't ready goes on
  goes_on : (g : Grain) (e : Entry) (phase : Phase) (until : ℕ) (resting : Bool) → s.entry ≡ Some e → is_ready e.phase ≡ false
      → IsEntered e phase until resting
      → Does logic s step (enters g) (Some g) (on_entry (record e { phase = phase; until = until; resting = resting }))
  -- it is given up, and each that waits is told so
  unloads : (g : Grain) (e : Entry) → s.entry ≡ Some e → is_ready e.phase ≡ false → Does logic s step (enters g) (Some g) (unloaded e)
  -- the first that waits becomes an open turn
  opens : (g : Grain) (e : Entry) (first : Request) (others : List Request) → s.entry ≡ Some e → is_ready e.phase ≡ true
      → e.queue ≡ first ∷ others → may_open logic g e first ≡ true
      → Does logic s step (begins g) (Some g) (on_entry (record e { queue = others; turns = map.insert e.turns first.number first }))
  -- an open turn is closed, and its request answered
  closes : (g : Grain) (turn : ℕ) (e : Entry) (request : Request)
      (left : Change Entry) (sends : List Outgoing) (row : Change Row) (outcome : Result Tree Fault)
      → s.entry ≡ Some e → map.get e.turns turn ≡ Some request → IsLeft logic g e request left → (sends ≡ []) ⊎ (sender_by step ≡ g ∷ [])
      → (row ≡ keep) ⊎ Touches step g
      → Does logic s step (ends g turn) (Some g)
      (record { account = with_sends g s.account sends; entry = left; row = row; replies = reply_to request.sender outcome })

-- the same of an effect that may be none
abbrev Doing : Logic → Context → Step → Role → Option Grain → Option Effect → Type 0
Doing logic s step role grain None = Unit {0}
Doing logic s step role grain (Some e) = Does logic s step role grain e

-- ---- calls

-- the request passed, for the owner's account and at a grain of its own
abbrev Passes : Context → Grain → Result Account Fault → Type 0
Passes s g (Ok a) = (s.account ≡ Some a) × (g.tenant ≡ s.tenant)
Passes s g (Err why) = Unit {0}

where_test : (s : Context) (g : Grain) (a : Account) (b : Bool) (why : Fault) → Passes s g (Ok a) → Passes s g (if b then Ok a else Err why)
where_test s g a true why h = h
where_test s g a false why h = tt

gate_passes : (logic : Logic) (s : Context) (g : Grain) (found : Option Account) → s.account ≡ found → Passes s g (gate logic s found g)
gate_passes logic s g None is = tt
gate_passes logic s g (Some a) is =
    on_test (λ b. Passes s g (if b then kind_gate logic a g else Err (AcrossTenants s.tenant g.tenant))) (same_text g.tenant s.tenant)
    (λ own. where_test s g a (logic.knows g.kind) (UnknownKind g.kind) (is, (same_text_decides g.tenant s.tenant).0 own)) (λ _. tt)

admitted_passes : (s : Context) (g : Grain) (r : Result Account Fault) → Passes s g r → Passes s g (admitted s g r)
admitted_passes s g (Err why) h = tt
admitted_passes s g (Ok a) h =
    on_test (λ b. Passes s g (if b then Err (NoNumber s.tenant) else room s a g s.entry)) (a.count == last_number) (λ _. tt) (λ _.
    on_found (λ found. Passes s g (room s a g found)) s.entry
    (λ _. where_test s g a (nat_lt s.active a.limits.activations) (NoActivation s.tenant) h)
    (λ e _. where_test s g a (nat_lt (length e.queue) a.limits.mailbox) (MailboxFull g) h))

call_passes : (logic : Logic) (s : Context) (g : Grain) → Passes s g (admitted s g (gate logic s s.account g))
call_passes logic s g = admitted_passes s g (gate logic s s.account g) (gate_passes logic s g s.account refl)

module _ (logic : Logic) (s : Context) (step : Step) where
  abbrev Asked : Party → Option Grain → Effect → Type 0
  Asked p = Does logic s step (asks p)

  settled_does : (p : Party) (g : Grain) (call : codec.Call) (r : Result Account Fault) → Passes s g r
      → Asked p (Some g) (call_settled s p call r)
  settled_does p g call (Ok a) h = accepts p g call keep a h.1 untouched h.0
  settled_does p g call (Err why) h = tells p (Some g) keep (Err why) untouched

  called_does : (p : Party) (g : Grain) (call : codec.Call) → Asked p (Some g) (called logic s p g call)
  unfolding called
  called_does p g call = settled_does p g call _ (call_passes logic s g)

  -- ---- deliveries

  abbrev seen : Account → Context
  seen rest = record s { account = Some rest }

  over_does : (p : Party) (g : Grain) (call : codec.Call) (rest : Account) (r : Result Account Fault) → Remains s.account (put rest)
      → Passes (seen rest) g r → Asked p (Some g) (on_account rest (call_settled (seen rest) p call r))
  over_does p g call rest (Ok a) remains h = accepts p g call (put rest) a h.1 remains h.0
  over_does p g call rest (Err why) remains h = tells p (Some g) (put rest) (Err why) remains

  first_does : (g : Grain) (a : Account) (o : Option (Send × List Send)) → s.account ≡ Some a → first_from g a.sends ≡ o
      → Doing logic s step (asks (party.Grain g)) (option_map (λ f. f.0.message.target) o) (option_map (delivered_to logic s g a) o)
  unfolding called
  first_does g a None is first = tt
  first_does g a (Some found) is first =
      let rest : Account = record a { sends = found.1 } in
      let m = found.0.message in
      over_does (party.Grain g) m.target m.call rest _ (without a g found is first) (call_passes logic (seen rest) m.target)

  delivered_does : (g : Grain) (account : Option Account) → s.account ≡ account
      → Doing logic s step (asks (party.Grain g)) (first_target account g) (option_and_then (delivered logic s g) account)
  delivered_does g None is = tt
  delivered_does g (Some a) is = first_does g a (first_from g a.sends) is refl

  -- ---- pokes and status

  row_told_does : (p : Party) (g : Grain) (r : Result (Option ℕ × Change Row) RowFault) → g.tenant ≡ s.tenant → Touches step g
      → Asked p (Some g) (row_told p g r)
  row_told_does p g (Ok done) own touches = pokes p g done.1 _ own touches
  row_told_does p g (Err (stale found)) own touches = tells p (Some g) keep _ untouched
  row_told_does p g (Err spent) own touches = tells p (Some g) keep _ untouched

  poke_does : (p : Party) (g : Grain) (state : Tree) (failed : Bool) (r : Result Account Fault) → Passes s g r → Touches step g
      → Asked p (Some g) (poke_settled s p g state failed r)
  poke_does p g state true (Ok a) h touches = tells p (Some g) keep _ untouched
  poke_does p g state false (Ok a) h touches = row_told_does p g (row_poked s.row state) h.1 touches
  poke_does p g state failed (Err why) h touches = tells p (Some g) keep _ untouched

  poked_does : (p : Party) (g : Grain) (state : Tree) (failed : Bool) → Touches step g → Asked p (Some g) (poked logic s p g state failed)
  unfolding poked
  poked_does p g state failed touches = poke_does p g state failed _ (gate_passes logic s g s.account refl) touches

  status_does : (p : Party) (account : Option Account) → Asked p None (status_told s p account)
  status_does p None = tells p None keep _ untouched
  status_does p (Some a) = tells p None keep _ untouched

  -- ---- entries

  module _ (g : Grain) (e : Entry) (is : s.entry ≡ Some e) where
    abbrev Entering : Option Effect → Type 0
    Entering = Doing logic s step (enters g) (Some g)

    abbrev Beginning : Option Effect → Type 0
    Beginning = Doing logic s step (begins g) (Some g)

    activated_does : (p : Phase) → e.phase ≡ p → Entering (activated e p)
    activated_does waiting phase = goes_on g e loading e.until e.resting is (ap is_ready phase) (inl (refl, refl, refl))
    activated_does _ phase = tt

    loaded_does : (failed : Bool) (p : Phase) → e.phase ≡ p → Entering (loaded logic s g failed e p)
    loaded_does true loading phase = unloads g e is (ap is_ready phase)
    loaded_does false loading phase = goes_on g e (ready (content_or (logic.empty g.kind) s.row) (version_of s.row)) 0 false is (ap is_ready phase) (inr (refl, refl))
    loaded_does _ _ phase = tt

    opened_does : (queue : List Request) → e.queue ≡ queue → is_ready e.phase ≡ true → Beginning (opened logic g e queue)
    opened_does [] queue phase = tt
    opened_does (first ∷ others) queue phase =
        let new : Entry = record e { queue = others; turns = map.insert e.turns first.number first } in
        on_test (λ b. Beginning (if b then Some (on_entry new) else None)) (may_open logic g e first)
        (λ may. opens g e first others is phase queue may) (λ _. tt)

    begun_does : (p : Phase) → e.phase ≡ p → Beginning (opened_if_ready logic g e p)
    begun_does (ready state version) phase = opened_does e.queue refl (ap is_ready phase)
    begun_does _ phase = tt

-- ---- turns

module _ (logic : Logic) (s : Context) (g : Grain) (turn : ℕ) (e : Entry) (request : Request) (is : s.entry ≡ Some e)
    (open_turn : map.get e.turns turn ≡ Some request) where
  -- it goes if it rests and is idle without the turn
  left_by : (new : Entry) (said : Keep) → new.queue ≡ e.queue → new.turns ≡ map.remove e.turns request.number
      → (is_ready new.phase ≡ false → (is_ready e.phase ≡ false) ⊎ Stores logic g request) → MaySay logic g request said
      → new.until ≡ until_by s.clock said e.until → new.resting ≡ resting_by said e.resting → IsLeft logic g e request (stays_or_goes new)
  left_by new said queue turns rests may_say until resting =
      stays_or_goes_by new (λ left. IsLeft logic g e request left)
      (λ both.
      let parts = idle_parts new (and_parts new.resting (is_idle new) both).1 in
      goes (sym queue ∙ parts.1) (inl (ap (λ (t : Turns). map.len t) (sym turns) ∙ parts.2)))
      (λ busy.
      stays new queue turns rests (record { said = said; may_say = may_say; clock = s.clock; until = until; resting = resting; busy = busy }))

  ready_left : (state : Tree) (version : Option ℕ) (said : Keep) → MaySay logic g request said
      → IsLeft logic g e request (stays_or_goes (closed_entry s.clock e request state version said))
  ready_left state version said may_say =
      left_by (closed_entry s.clock e request state version said) said refl refl (λ isnt. absurd (true≢false isnt)) may_say refl refl

  abbrev Closing : Step → Option Effect → Type 0
  Closing step o = Doing logic s step (ends g turn) (Some g) o

  ended_by_does : (version : Option ℕ) (plan : Plan) (storage : StorageCall) → MaySay logic g request plan.keep
      → Closing (End g turn) (ended_by s g e request version plan storage)
  ended_by_does version plan asks_nothing may_say =
      closes g turn e request _ plan.sends keep _ is open_turn (ready_left plan.state version plan.keep may_say) (inr refl) (inl refl)
  ended_by_does version plan _ may_say = tt

  ended_does : (p : Phase) → Closing (End g turn) (ended logic s g e request p)
  ended_does (ready state version) =
      let plan = plan_of logic g state request in
      ended_by_does version plan plan.storage (inr (state, refl))
  ended_does _ = tt

  abandoned_does : Closing (Abandon g turn) (Some (abandoned s e request))
  abandoned_does =
      closes g turn e request _ [] keep (Err NoMemory) is open_turn
      (left_by (abandoned_entry s.clock e request) same refl refl (λ isnt. inl isnt) (inl refl) refl refl) (inl refl) (inl refl)

  activation_left : (queue : List Request) → e.queue ≡ queue → Stores logic g request
      → IsLeft logic g e request (ends_activation e request queue)
  activation_left [] none asks_some = goes none (inr asks_some)
  activation_left (first ∷ others) some asks_some =
      stays (record (without_turn e request) { phase = waiting }) refl refl (λ _. inr asks_some)
      (record { said = same; may_say = inl refl; clock = s.clock; until = refl; resting = refl; busy = and_right e.resting false refl })

  module _ (failed : Bool) (state : Tree) (version : Option ℕ) where
    abbrev Storing : Option Effect → Type 0
    Storing = Closing (Store g turn failed)

    closed_does : (new : Tree) (at : Option ℕ) (row : Change Row) (outcome : Result Tree Fault)
        → Storing (Some (closed s e request new at same row outcome))
    closed_does new at row outcome =
        closes g turn e request _ [] row outcome is open_turn (ready_left new at same (inl refl)) (inl refl) (inr (λ h. refl))

    row_changed_does : (new : Tree) (r : Result (Option ℕ × Change Row) RowFault) → Stores logic g request
        → Storing (Some (row_changed s g e request state version new r))
    row_changed_does new (Ok done) asks_some = closed_does new done.0 done.1 _
    row_changed_does new (Err (stale found)) asks_some =
        closes g turn e request _ [] keep (Err (StateChanged g)) is open_turn (activation_left e.queue refl asks_some) (inl refl) (inl refl)
    row_changed_does new (Err spent) asks_some = closed_does state version keep _

    stored_by_does : (storage : StorageCall) → (plan_of logic g state request).storage ≡ storage
        → Storing (stored_by logic s g e request state version storage)
    stored_by_does asks_nothing asked = tt
    stored_by_does reads_row asked = closed_does (content_or (logic.empty g.kind) s.row) (version_of s.row) keep _
    stored_by_does writes_row asked = row_changed_does state (row_written version s.row state) (state, λ none. cc)
    stored_by_does clears_row asked = row_changed_does (logic.empty g.kind) (row_cleared version s.row) (state, λ none. cc)

    unless_failed : (b : Bool) (o : Option Effect) → Storing o
        → Storing (option_map (λ answer. if b then closed s e request state version same keep (Err StorageFailed) else answer) o)
    unless_failed b None h = tt
    unless_failed true (Some x) h = closed_does state version keep (Err StorageFailed)
    unless_failed false (Some x) h = h

  stored_does : (failed : Bool) (p : Phase) → Closing (Store g turn failed) (stored logic s g failed e request p)
  stored_does failed (ready state version) =
      unless_failed failed state version failed _ (stored_by_does failed state version (plan_of logic g state request).storage refl)
  stored_does failed _ = tt

-- ---- each kind of step

module _ (logic : Logic) (s : Context) where
  found_does : {X : Type 0} (step : Step) (role : Role) (grain : Option Grain) (does : X → Option Effect) (found : Option X)
      → ((x : X) → found ≡ Some x → Doing logic s step role grain (does x)) → Doing logic s step role grain (option_and_then does found)
  found_does step role grain does None h = tt
  found_does step role grain does (Some x) h = h x refl

  -- what is done to an open turn
  turn_does : (step : Step) (g : Grain) (turn : ℕ) (does : Entry → Request → Option Effect)
      → ((e : Entry) (request : Request) → s.entry ≡ Some e → map.get e.turns turn ≡ Some request
      → Doing logic s step (ends g turn) (Some g) (does e request))
      → Doing logic s step (ends g turn) (Some g) (option_and_then (at_turn does turn) s.entry)
  turn_does step g turn does h =
      found_does _ _ _ _ s.entry (λ e is. found_does step (ends g turn) _ (does e) (map.get e.turns turn) (λ q there. h e q is there))

  step_does : (step : Step) → Doing logic s step (role_of step) (grain_of s.account step) (effect_of logic s step)
  unfolding effect_of
  step_does (Refuse caller id code) = tells (party.Client caller id) None keep _ untouched
  step_does (Call caller id g call) = called_does logic s (Call caller id g call) (party.Client caller id) g call
  step_does (Poke failed caller id g state) = poked_does logic s _ (party.Client caller id) g state failed (λ h. refl)
  step_does (Status caller id) = status_does logic s (Status caller id) (party.Client caller id) s.account
  step_does (Deliver g) = delivered_does logic s (Deliver g) g s.account refl
  step_does (Activate g) = found_does _ _ _ _ s.entry (λ e is. activated_does logic s (Activate g) g e is e.phase refl)
  step_does (Load g failed) = found_does _ _ _ _ s.entry (λ e is. loaded_does logic s (Load g failed) g e is failed e.phase refl)
  step_does (Begin g) = found_does _ _ _ _ s.entry (λ e is. begun_does logic s (Begin g) g e is e.phase refl)
  step_does (Store g turn failed) = turn_does _ _ _ _ (λ e q is there. stored_does logic s g turn e q is there failed e.phase)
  step_does (End g turn) = turn_does _ _ _ _ (λ e q is there. ended_does logic s g turn e q is there e.phase)
  step_does (Abandon g turn) = turn_does _ _ _ _ (λ e q is there. abandoned_does logic s g turn e q is there)
  step_does (Tick now) = tt
  step_does Sweep = tt

  -- each step's effect is one of these
  pub effect_kind : (step : Step) (e : Effect) → effect_of logic s step ≡ Some e
      → Does logic s step (role_of step) (grain_of s.account step) e
  effect_kind step e is = subst (Doing logic s step (role_of step) (grain_of s.account step)) is (step_does step)
