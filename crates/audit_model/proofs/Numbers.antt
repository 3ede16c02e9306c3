-- Along a silo's journal numbers stay in their ranges.
use Rattle.silo_model.proofs.Common.{if◌then◌else◌, ◌++◌, ◌+◌, ◌<◌, ◌==◌, ◌∙◌, ◌∷◌, ◌≡◌, ◌≢◌, ◌≤◌, ◌⊎◌, Abandon, Account, AcrossTenants}
use Rattle.silo_model.proofs.Common.{Activate, AllByRecursion, Begin, Bool, Call, Change, Context, Deliver, Effect, End, Entry, Err, Fault, Grain, List}
use Rattle.silo_model.proofs.Common.{LeadsTo, Load, Logic, MailboxFull, NoActivation, NoNumber, None, Ok, Option, Party, Phase, Poke, Refuse, Reply}
use Rattle.silo_model.proofs.Common.{Request, Result, Row, RowFault, Send, Setup, Some, Status, Step, StorageCall, StorageFailed, Store, Sweep, Tick}
use Rattle.silo_model.proofs.Common.{Tree, UnknownKind, Whole, ℕ, [], all_done, ap, arith, asks_nothing, called, change_option, clears_row, closed}
use Rattle.silo_model.proofs.Common.{context_at, content_or, drop, effect_of, eq-eqb, eq_by_cmp, eq_by_cmp-Decides, false, first_from, flat_map}
use Rattle.silo_model.proofs.Common.{gate, get-part, grain_cmp, grain_cmp_exact, grain_cmp_total, grain_eq, grain_eq_decides, inl, inr, is_of, keep}
use Rattle.silo_model.proofs.Common.{last_number, length, loading, nat_cmp, nat_cmp-IsAntisymmetric, nat_cmp_total, nat_lt, none-some, opening}
use Rattle.silo_model.proofs.Common.{option_and_then, option_map, owner_of, poke_settled, poked, put, reads_row, ready, refl, reply_to, row_changed}
use Rattle.silo_model.proofs.Common.{row_poked, row_told, row_written, same, same_Some, same_text, shown_to, some_from_and_then, some_if_passes}
use Rattle.silo_model.proofs.Common.{spent, spread, stale, start_of, stored, stored_by, subst, sym, text_cmp, text_cmp_exact, text_cmp_total, true}
use Rattle.silo_model.proofs.Common.{FinMap, Limits, Rows, change_at, fresh_account, limits_of, true≢false, version_of, waiting, whole_step, with_request, writes_row}
use Rattle.std.specs.Prelude.{All}
use Rattle.std.specs.FinMap as map
use Rattle.std.proofs.lemmas.List.Elements.{All-from_recursion, All-map, recursion_from_All}
use Rattle.finite_maps.proofs.Lists.{all_weaker}
use Rattle.finite_maps.proofs.Values.{found_entries}
use Rattle.grain_storage.specs.Rows.{changed, is_spent, is_stale, next_version}
use Rattle.request_codec.specs.Call as codec
use Rattle.silo_event.specs.declared.reply.Party.TheVariants as party
use Rattle.silo_model.specs.Asks.{status_told}
use Rattle.silo_model.specs.Calls.{admitted, call_settled, kind_gate, room}
use Rattle.silo_model.specs.Saved.{touches_row}
use Rattle.silo_model.specs.Sends.{delivered, delivered_to, on_account, put_or}
use Rattle.silo_model.specs.Step.{at_turn}
use Rattle.silo_model.specs.Stores.{next_row, row_cleared, row_emptied}
use Rattle.silo_model.proofs.Changes.{OfPut, OfPutAt, changed_all, get-change_other, get-change_same}
use Rattle.silo_model.proofs.Contexts.{shown_account}
use Rattle.silo_model.proofs.EffectKinds.{Does, IsLeft, Role, accepts, asks, begins, closes, effect_kind, ends, enters, goes, goes_on, nobodys}
use Rattle.silo_model.proofs.EffectKinds.{opens, pokes, role_of, stays, tells, unloads}
use Rattle.silo_model.proofs.Isolation.{Did, by_owner, did_does, place_in}
use Rattle.silo_model.proofs.Moves.{count-with_sends, count_of, remains_count}
use Rattle.silo_model.proofs.Opening.{get-fresh_accounts, new_accounts, none_at}
use Rattle.silo_model.proofs.SharedSteps.{LeavesLess, shared_leaves}
use Rattle.silo_model.proofs.Tests.{either_way, on_found, on_test}
use Rattle.silo_model.proofs.TurnMaps.{Turns, get-remove_open}
use Rattle.journal_text.specs.RecordedReply.{recorded_of}
use Rattle.journal_text.specs.Rules.{AsksInRange, HasNumbers, HasNumbersInRange, IsNumber, ToNumber}
use Rattle.journal_text.specs.Text.{History}
use Rattle.journal_text.specs.declared.recorded.RecordedReply.{RecordedReply}
use Rattle.audit_model.specs.Numbers.{NumbersInRange}
use Rattle.audit_model.specs.Parts.{Records, all_recorded, setup_of}

-- ---- what is held

-- a request's own number, and the number under which its client asked
abbrev IsHeld : Request → Type 0
IsHeld q = (q.number ≤ last_number) × ToNumber q.sender

abbrev AllHeld : List Request → Type 0
AllHeld queue = AllByRecursion IsHeld queue

abbrev IsTold : Reply → Type 0
IsTold r = ToNumber r.recipient

abbrev AllTold : List Reply → Type 0
AllTold replies = AllByRecursion IsTold replies

abbrev IsOpen : Turns → Type 0
IsOpen turns = (n : ℕ) (q : Request) → map.get turns n ≡ Some q → (n ≤ last_number) × IsHeld q

pub record IsNumbered (e : Entry) : Type 0 where
  pub queue : AllHeld e.queue
  pub turns : IsOpen e.turns

abbrev HasVersion : Row → Type 0
HasVersion r = 1 ≤ r.version

held_push : (queue : List Request) (q : Request) → AllHeld queue → IsHeld q → AllHeld (queue ++ q ∷ [])
held_push [] q all new = (new, tt)
held_push (first ∷ queue) q all new = (all.0, held_push queue q all.1 new)

told_append : (first others : List Reply) → AllTold first → AllTold others → AllTold (first ++ others)
told_append [] others all more = more
told_append (r ∷ first) others all more = (all.0, told_append first others all.1 more)

none_open : IsOpen map.empty
none_open n q found = absurd (none-some q (sym (map.get-empty nat_cmp n) ∙ found))

-- an entry with one more request
with_held : (clock : ℕ) (q : Request) (found : Option Entry) → IsHeld q → ((e : Entry) → found ≡ Some e → IsNumbered e) → IsNumbered (with_request clock q found)
with_held clock q None new old = record { queue = (new, tt); turns = none_open }
with_held clock q (Some e) new old = record { queue = held_push e.queue q (old e refl).queue new; turns = (old e refl).turns }

-- the first that waits becomes an open turn
begun : (e : Entry) (first : Request) (others : List Request) → e.queue ≡ first ∷ others → IsNumbered e
    → IsNumbered (record e { queue = others; turns = map.insert e.turns first.number first })
begun e first others waits is =
    let all : IsHeld first × AllHeld others = subst AllHeld waits is.queue in
    record {
      queue = all.1;
      turns = λ n q found.
          on_test (λ b. (if b then Some first else map.get e.turns n) ≡ Some q → (n ≤ last_number) × IsHeld q) (eq_by_cmp nat_cmp n first.number)
          (λ tied h. (
            subst (λ k. k ≤ last_number) (sym ((eq_by_cmp-Decides nat_cmp_total nat_cmp-IsAntisymmetric n first.number).0 tied)) all.0.0,
            subst IsHeld (same_Some first q h) all.0,
          ))
          (λ _ h. is.turns n q h)
          (sym (map.get-insert nat_cmp_total e.turns first.number first n) ∙ found);
    }

-- a turn is closed
left_numbered : (logic : Logic) (g : Grain) (e : Entry) (request : Request) (c : Change Entry) → IsNumbered e → IsLeft logic g e request c → OfPut IsNumbered c
left_numbered logic g e request _ is (stays new queue turns rests said) = record {
  queue = subst AllHeld (sym queue) is.queue;
  turns = λ n q found. is.turns n q (get-remove_open e.turns request.number n q (sym (ap (λ (t : Turns). map.get t n) turns) ∙ found));
}
left_numbered logic g e request _ is (goes none turns) = tt

answered_told : (sender : Party) (outcome : Result Tree Fault) → ToNumber sender → AllTold (reply_to sender outcome)
answered_told (party.Client client id) outcome is = (is, tt)
answered_told (party.Grain grain) outcome is = tt

all_failed_told : (queue : List Request) → AllHeld queue → AllTold (flat_map (λ q. reply_to q.sender (Err StorageFailed)) queue)
all_failed_told [] all = tt
all_failed_told (q ∷ queue) all = told_append (reply_to q.sender (Err StorageFailed)) _ (answered_told q.sender (Err StorageFailed) all.0.1) (all_failed_told queue all.1)

-- ---- what a step does to entries, and whom it tells

abbrev RoleNumber : Role → Type 0
RoleNumber (asks p) = ToNumber p
RoleNumber _ = Unit {0}

role_number : (step : Step) → AsksInRange step → RoleNumber (role_of step)
role_number (Refuse caller id code) is = is
role_number (Call caller id grain message) is = is
role_number (Poke failed caller id grain state) is = is
role_number (Status caller id) is = is
role_number _ is = tt

abbrev TurnNumber : Role → Type 0
TurnNumber (ends g turn) = turn ≤ last_number
TurnNumber _ = Unit {0}

pub record StaysNumbered (role : Role) (e : Effect) : Type 0 where
  pub entry : OfPut IsNumbered e.entry
  pub replies : AllTold e.replies
  pub turn : TurnNumber role

module _ (logic : Logic) (s : Context) (step : Step) (old : (x : Entry) → s.entry ≡ Some x → IsNumbered x) where
  does_stay : {role : Role} {grain : Option Grain} {e : Effect} → RoleNumber role → count_of (change_option s.account e.account) ≤ last_number
      → Does logic s step role grain e → StaysNumbered role e
  does_stay asked counted (tells p grain left outcome remains) = record { entry = tt; replies = (asked, tt); turn = tt }
  does_stay asked counted (pokes p g row outcome own touches) = record { entry = tt; replies = (asked, tt); turn = tt }
  does_stay asked counted (accepts p g call left a own remains known) = record { entry = with_held s.clock _ s.entry (counted, asked) old; replies = tt; turn = tt }
  does_stay asked counted (goes_on g e phase until resting found rests entered) =
      record { entry = record { queue = (old e found).queue; turns = (old e found).turns }; replies = tt; turn = tt }
  does_stay asked counted (unloads g e found rests) = record { entry = tt; replies = all_failed_told e.queue (old e found).queue; turn = tt }
  does_stay asked counted (opens g e first others found is_open queue may) =
      record { entry = begun e first others queue (old e found); replies = tt; turn = tt }
  does_stay asked counted (closes g turn e request left sends row outcome found open_turn is_left by_sends by_row) =
      let at = (old e found).turns turn request open_turn in
      record {
        entry = left_numbered logic g e request left (old e found) is_left;
        replies = answered_told request.sender outcome at.1.1;
        turn = at.0;
      }

-- ---- how many requests are accepted

abbrev Below : Result Account Fault → Type 0
Below (Ok a) = a.count ≤ last_number
Below (Err why) = Unit {0}

abbrev MayCount : Result Account Fault → Type 0
MayCount (Ok a) = a.count + 1 ≤ last_number
MayCount (Err why) = Unit {0}

-- a number that isn't the last is followed by another
one_more : (n m : ℕ) → n ≤ m → (n == m) ≡ false → n + 1 ≤ m
one_more n m is apart =
    let other : n ≢ m = λ equal. true≢false (sym (eq-eqb n m equal) ∙ apart) in
    omega (arith, is, other)

module _ (s : Context) where
  gate_below : (logic : Logic) (g : Grain) (found : Option Account) → count_of found ≤ last_number → Below (gate logic s found g)
  gate_below logic g None is = tt
  gate_below logic g (Some a) is =
      on_test (λ b. Below (if b then kind_gate logic a g else Err (AcrossTenants s.tenant g.tenant))) (same_text g.tenant s.tenant)
      (λ _. on_test (λ b. Below (if b then Ok a else Err (UnknownKind g.kind))) (logic.knows g.kind) (λ _. is) (λ _. tt)) (λ _. tt)

  room_left : (g : Grain) (a : Account) (found : Option Entry) → a.count + 1 ≤ last_number → MayCount (room s a g found)
  room_left g a None is =
      on_test (λ b. MayCount (if b then Ok a else Err (NoActivation s.tenant))) (nat_lt s.active a.limits.activations) (λ _. is) (λ _. tt)
  room_left g a (Some e) is =
      on_test (λ b. MayCount (if b then Ok a else Err (MailboxFull g))) (nat_lt (length e.queue) a.limits.mailbox) (λ _. is) (λ _. tt)

  admitted_may : (g : Grain) (r : Result Account Fault) → Below r → MayCount (admitted s g r)
  admitted_may g (Err why) is = tt
  admitted_may g (Ok a) is =
      on_test (λ b. MayCount (if b then Err (NoNumber s.tenant) else room s a g s.entry)) (a.count == last_number) (λ _. tt)
      (λ apart. room_left g a s.entry (one_more a.count last_number is apart))

  settled_counted : (p : Party) (call : codec.Call) (r : Result Account Fault) → count_of s.account ≤ last_number → MayCount r
      → count_of (change_option s.account (call_settled s p call r).account) ≤ last_number
  settled_counted p call (Ok a) is may = may
  settled_counted p call (Err why) is may = is

  called_counted : (logic : Logic) (p : Party) (g : Grain) (call : codec.Call) → count_of s.account ≤ last_number
      → count_of (change_option s.account (called logic s p g call).account) ≤ last_number
  unfolding called
  called_counted logic p g call is = settled_counted p call _ is (admitted_may g _ (gate_below logic g s.account is))

-- an effect on what is left of an account
left_by : (o : Option Account) (rest : Account) (c : Change Account) → change_option o (put_or rest c) ≡ change_option (Some rest) c
left_by o rest keep = refl
left_by o rest (put a) = refl
left_by o rest drop = refl

module _ (logic : Logic) (s : Context) (is : count_of s.account ≤ last_number) where
  abbrev Counted : Effect → Type 0
  Counted e = count_of (change_option s.account e.account) ≤ last_number

  first_counted : (g : Grain) (a : Account) → s.account ≡ Some a → (o : Option (Send × List Send)) (e : Effect)
      → option_map (delivered_to logic s g a) o ≡ Some e → Counted e
  first_counted g a known None e none = absurd (none-some e none)
  first_counted g a known (Some found) e does =
      let rest : Account = record a { sends = found.1 } in
      let below : a.count ≤ last_number = subst (λ o. count_of o ≤ last_number) known is in
      let seen : Context = record s { account = Some rest } in
      let made = called logic seen (party.Grain g) found.0.message.target found.0.message.call in
      subst Counted (same_Some _ e does)
      (subst (λ (o : Option Account). count_of o ≤ last_number) (sym (left_by s.account rest made.account))
      (called_counted seen logic (party.Grain g) found.0.message.target found.0.message.call below))

  delivered_counted : (g : Grain) (account : Option Account) → s.account ≡ account → (e : Effect)
      → option_and_then (delivered logic s g) account ≡ Some e → Counted e
  delivered_counted g None known e none = absurd (none-some e none)
  delivered_counted g (Some a) known e does = first_counted g a known (first_from g a.sends) e does

  row_told_counted : (p : Party) (g : Grain) (r : Result (Option ℕ × Change Row) RowFault) → Counted (row_told p g r)
  row_told_counted p g (Ok done) = is
  row_told_counted p g (Err (stale found)) = is
  row_told_counted p g (Err spent) = is

  poke_counted : (p : Party) (g : Grain) (state : Tree) (failed : Bool) (r : Result Account Fault) → Counted (poke_settled s p g state failed r)
  poke_counted p g state true (Ok a) = is
  poke_counted p g state false (Ok a) = row_told_counted p g (row_poked s.row state)
  poke_counted p g state failed (Err why) = is

  poked_counted : (p : Party) (g : Grain) (state : Tree) (failed : Bool) → Counted (poked logic s p g state failed)
  unfolding poked
  poked_counted p g state failed = poke_counted p g state failed (gate logic s s.account g)

  status_counted : (p : Party) (account : Option Account) → Counted (status_told s p account)
  status_counted p None = is
  status_counted p (Some a) = is

  abbrev CountedBy : Role → Effect → Type 0
  CountedBy (asks p) e = Unit {0}
  CountedBy _ e = Counted e

  does_count : {step : Step} {role : Role} {grain : Option Grain} {e : Effect} → Does logic s step role grain e → CountedBy role e
  does_count (goes_on g e phase until resting found rests entered) = is
  does_count (unloads g e found rests) = is
  does_count (opens g e first others found is_open queue may) = is
  does_count (closes g turn e request left sends row outcome found open_turn is_left by_sends by_row) =
      subst (λ n. n ≤ last_number) (sym (count-with_sends g s.account sends)) is
  does_count _ = tt

  step_counted : (step : Step) (e : Effect) → effect_of logic s step ≡ Some e → Counted e
  unfolding effect_of
  step_counted (Refuse caller id code) e does = subst Counted (same_Some _ e does) is
  step_counted (Call caller id g call) e does = subst Counted (same_Some _ e does) (called_counted s logic (party.Client caller id) g call is)
  step_counted (Poke failed caller id g state) e does = subst Counted (same_Some _ e does) (poked_counted (party.Client caller id) g state failed)
  step_counted (Status caller id) e does = subst Counted (same_Some _ e does) (status_counted (party.Client caller id) s.account)
  step_counted (Deliver g) e does = delivered_counted g s.account refl e does
  step_counted (Activate g) e does = does_count (effect_kind logic s (Activate g) e does)
  step_counted (Load g failed) e does = does_count (effect_kind logic s (Load g failed) e does)
  step_counted (Begin g) e does = does_count (effect_kind logic s (Begin g) e does)
  step_counted (Store g turn failed) e does = does_count (effect_kind logic s (Store g turn failed) e does)
  step_counted (End g turn) e does = does_count (effect_kind logic s (End g turn) e does)
  step_counted (Abandon g turn) e does = does_count (effect_kind logic s (Abandon g turn) e does)
  step_counted (Tick now) e does = absurd (none-some e does)
  step_counted Sweep e does = absurd (none-some e does)

-- ---- rows

abbrev RowIs : Effect → Type 0
RowIs e = OfPut HasVersion e.row

abbrev AnswerIs : Result (Option ℕ × Change Row) RowFault → Type 0
AnswerIs (Ok done) = OfPut HasVersion done.1
AnswerIs (Err why) = Unit {0}

next_above : (found : Option Row) → 1 ≤ next_version found
next_above None = omega arith
next_above (Some row) = omega arith

changed_is : (expected : Option ℕ) (found : Option Row) (done : Option ℕ × Change Row) → OfPut HasVersion done.1 → AnswerIs (changed expected found done)
changed_is expected found done is =
    on_test (λ b. AnswerIs (if b then Err (stale (version_of found)) else if is_spent found then Err spent else Ok done)) (is_stale expected found) (λ _. tt)
    (λ _. on_test (λ b. AnswerIs (if b then Err spent else Ok done)) (is_spent found) (λ _. tt) (λ _. is))

emptied_is : (found : Option Row) → OfPut HasVersion (row_emptied found).1
emptied_is None = tt
emptied_is (Some row) = next_above (Some row)

module _ (logic : Logic) (s : Context) where
  call_row : (p : Party) (call : codec.Call) (r : Result Account Fault) → RowIs (call_settled s p call r)
  call_row p call (Ok a) = tt
  call_row p call (Err why) = tt

  called_row : (p : Party) (g : Grain) (call : codec.Call) → RowIs (called logic s p g call)
  unfolding called
  called_row p g call = call_row p call (admitted s g (gate logic s s.account g))

module _ (logic : Logic) (s : Context) where
  told_row : (p : Party) (g : Grain) (r : Result (Option ℕ × Change Row) RowFault) → AnswerIs r → RowIs (row_told p g r)
  told_row p g (Ok done) is = is
  told_row p g (Err (stale found)) is = tt
  told_row p g (Err spent) is = tt

  poke_row : (p : Party) (g : Grain) (state : Tree) (failed : Bool) (r : Result Account Fault) → RowIs (poke_settled s p g state failed r)
  poke_row p g state true (Ok a) = tt
  poke_row p g state false (Ok a) = told_row p g (row_poked s.row state) (changed_is (version_of s.row) s.row _ (next_above s.row))
  poke_row p g state failed (Err why) = tt

  poked_row : (p : Party) (g : Grain) (state : Tree) (failed : Bool) → RowIs (poked logic s p g state failed)
  unfolding poked
  poked_row p g state failed = poke_row p g state failed (gate logic s s.account g)

  status_row : (p : Party) (account : Option Account) → RowIs (status_told s p account)
  status_row p None = tt
  status_row p (Some a) = tt

  -- a step that touches no row
  abbrev RowBy : Role → Effect → Type 0
  RowBy (asks p) e = Unit {0}
  RowBy _ e = RowIs e

  kept_row : (step : Step) (g : Grain) (row : Change Row) → ((h : Grain) → touches_row h step ≡ false)
      → (row ≡ keep) ⊎ ((h : Grain) → touches_row h step ≡ grain_eq g h) → OfPut HasVersion row
  kept_row step g row none (inl is) = subst (OfPut HasVersion) (sym is) tt
  kept_row step g row none (inr touches) = absurd (true≢false (sym ((grain_eq_decides g g).1 refl) ∙ sym (touches g) ∙ none g))

  does_row : {step : Step} {role : Role} {grain : Option Grain} {e : Effect} → ((h : Grain) → touches_row h step ≡ false)
      → Does logic s step role grain e → RowBy role e
  does_row none (goes_on g e phase until resting found rests entered) = tt
  does_row none (unloads g e found rests) = tt
  does_row none (opens g e first others found is_open queue may) = tt
  does_row {step} none (closes g turn e request left sends row outcome found open_turn is_left by_sends by_row) = kept_row step g row none by_row
  does_row none _ = tt

  module _ (g : Grain) (failed : Bool) (x : Entry) (q : Request) (state : Tree) (version : Option ℕ) where
    row_changed_is : (new : Tree) (r : Result (Option ℕ × Change Row) RowFault) → AnswerIs r → RowIs (row_changed s g x q state version new r)
    row_changed_is new (Ok done) is = is
    row_changed_is new (Err (stale found)) is = tt
    row_changed_is new (Err spent) is = tt

    abbrev MayBe : Option Effect → Type 0
    MayBe None = Unit {0}
    MayBe (Some e) = RowIs e

    stored_by_is : (call : StorageCall) → MayBe (stored_by logic s g x q state version call)
    stored_by_is asks_nothing = tt
    stored_by_is reads_row = tt
    stored_by_is writes_row = row_changed_is state (row_written version s.row state) (changed_is version s.row _ (next_above s.row))
    stored_by_is clears_row = row_changed_is (logic.empty g.kind) (row_cleared version s.row) (changed_is version s.row _ (emptied_is s.row))

    unless_failed : (b : Bool) (o : Option Effect) (e : Effect) → MayBe o
        → option_map (λ answer. if b then closed s x q state version same keep (Err StorageFailed) else answer) o ≡ Some e → RowIs e
    unless_failed b None e is none = absurd (none-some e none)
    unless_failed true (Some made) e is does = subst RowIs (same_Some _ e does) tt
    unless_failed false (Some made) e is does = subst RowIs (same_Some made e does) is

  stored_row : (g : Grain) (failed : Bool) (x : Entry) (q : Request) (phase : Phase) (e : Effect) → stored logic s g failed x q phase ≡ Some e → RowIs e
  stored_row g failed x q waiting e none = absurd (none-some e none)
  stored_row g failed x q loading e none = absurd (none-some e none)
  stored_row g failed x q (ready state version) e does =
      unless_failed g failed x q state version failed _ e
      (stored_by_is g failed x q state version ((logic.plan g.kind q.call.method state q.call.argument).storage)) does

  at_turn_row : (g : Grain) (turn : ℕ) (failed : Bool) (x : Entry) (found : Option Request) (e : Effect)
      → option_and_then (λ request. stored logic s g failed x request x.phase) found ≡ Some e → RowIs e
  at_turn_row g turn failed x None e none = absurd (none-some e none)
  at_turn_row g turn failed x (Some q) e does = stored_row g failed x q x.phase e does

  store_row : (g : Grain) (turn : ℕ) (failed : Bool) (found : Option Entry) (e : Effect)
      → option_and_then (at_turn (λ x request. stored logic s g failed x request x.phase) turn) found ≡ Some e → RowIs e
  store_row g turn failed None e none = absurd (none-some e none)
  store_row g turn failed (Some x) e does = at_turn_row g turn failed x (map.get x.turns turn) e does

  first_row : (g : Grain) (a : Account) (o : Option (Send × List Send)) (e : Effect) → option_map (delivered_to logic s g a) o ≡ Some e → RowIs e
  first_row g a None e none = absurd (none-some e none)
  first_row g a (Some found) e does =
      let rest : Account = record a { sends = found.1 } in
      subst RowIs (same_Some _ e does) (called_row logic (record s { account = Some rest }) (party.Grain g) found.0.message.target found.0.message.call)

  delivered_row : (g : Grain) (account : Option Account) (e : Effect) → option_and_then (delivered logic s g) account ≡ Some e → RowIs e
  delivered_row g None e none = absurd (none-some e none)
  delivered_row g (Some a) e does = first_row g a (first_from g a.sends) e does

  step_row : (step : Step) (e : Effect) → effect_of logic s step ≡ Some e → RowIs e
  unfolding effect_of
  step_row (Refuse caller id code) e does = subst RowIs (same_Some _ e does) tt
  step_row (Call caller id g call) e does = subst RowIs (same_Some _ e does) (called_row logic s (party.Client caller id) g call)
  step_row (Poke failed caller id g state) e does = subst RowIs (same_Some _ e does) (poked_row (party.Client caller id) g state failed)
  step_row (Status caller id) e does = subst RowIs (same_Some _ e does) (status_row (party.Client caller id) s.account)
  step_row (Deliver g) e does = delivered_row g s.account e does
  step_row (Activate g) e does = does_row (λ h. refl) (effect_kind logic s (Activate g) e does)
  step_row (Load g failed) e does = does_row (λ h. refl) (effect_kind logic s (Load g failed) e does)
  step_row (Begin g) e does = does_row (λ h. refl) (effect_kind logic s (Begin g) e does)
  step_row (Store g turn failed) e does = store_row g turn failed s.entry e does
  step_row (End g turn) e does = does_row (λ h. refl) (effect_kind logic s (End g turn) e does)
  step_row (Abandon g turn) e does = does_row (λ h. refl) (effect_kind logic s (Abandon g turn) e does)
  step_row (Tick now) e does = absurd (none-some e does)
  step_row Sweep e does = absurd (none-some e does)

-- ---- all tenants

pub record AreNumbered (w : Whole) : Type 0 where
  pub counts : (tenant : List ℕ) → count_of (map.get w.accounts tenant) ≤ last_number
  pub entries : (g : Grain) (e : Entry) → map.get w.entries g ≡ Some e → IsNumbered e
  pub rows : (g : Grain) (r : Row) → map.get w.rows g ≡ Some r → HasVersion r
  pub replies : AllTold w.replies

seen_numbered : (w : Whole) (owner : List ℕ) (grain : Option Grain) → AreNumbered w
    → (x : Entry) → (context_at (shown_to owner w) grain).entry ≡ Some x → IsNumbered x
unfolding context_at shown_to
seen_numbered w owner None are x found = absurd (none-some x found)
seen_numbered w owner (Some g) are x found =
    are.entries g x (some_if_passes (is_of owner g) (map.get w.entries g) x (sym (get-part w.entries (is_of owner) g) ∙ found)).1

seen_counted : (w : Whole) (owner : List ℕ) (grain : Option Grain) → AreNumbered w → count_of (context_at (shown_to owner w) grain).account ≤ last_number
unfolding context_at shown_to
seen_counted w owner grain are = are.counts owner

put_at : {X : Type 0} (P : X → Type 0) (grain : Option Grain) (c : Change X) → OfPut P c → OfPutAt (λ (g : Grain). P) grain c
put_at P grain keep is = tt
put_at P None (put x) is = tt
put_at P (Some g) (put x) is = is
put_at P grain drop is = tt

-- the owner's account, and every other
accounts_counted : (w : Whole) (owner tenant : List ℕ) (c : Change Account) → count_of (map.get w.accounts tenant) ≤ last_number
    → count_of (change_option (map.get w.accounts owner) c) ≤ last_number → count_of (map.get (change_at w.accounts owner c) tenant) ≤ last_number
accounts_counted w owner tenant c other own =
    either_way (eq_by_cmp text_cmp tenant owner)
    (λ tied.
    let is : tenant ≡ owner = (eq_by_cmp-Decides text_cmp_total text_cmp_exact tenant owner).0 tied in
    subst (λ (o : Option Account). count_of o ≤ last_number)
    (sym (ap (map.get (change_at w.accounts owner c)) is ∙ get-change_same text_cmp_total text_cmp_exact w.accounts owner c)) own)
    (λ apart.
    subst (λ (o : Option Account). count_of o ≤ last_number) (sym (get-change_other text_cmp_total text_cmp_exact w.accounts owner tenant c apart)) other)

spread_numbered : (w : Whole) (owner : List ℕ) (grain : Option Grain) (e : Effect) (role : Role) → AreNumbered w
    → count_of (change_option (map.get w.accounts owner) e.account) ≤ last_number → StaysNumbered role e → RowIs e → AreNumbered (spread w owner grain e)
unfolding spread
spread_numbered w owner grain e role are counted stay row = record {
  counts = λ tenant. accounts_counted w owner tenant e.account (are.counts tenant) counted;
  entries = changed_all grain_cmp_total grain_cmp_exact (λ (g : Grain). IsNumbered) w.entries grain e.entry are.entries (put_at IsNumbered grain e.entry stay.entry);
  rows = changed_all grain_cmp_total grain_cmp_exact (λ (g : Grain). HasVersion) w.rows grain e.row are.rows (put_at HasVersion grain e.row row);
  replies = told_append w.replies e.replies are.replies stay.replies;
}

-- ---- the step

number_from : (n : ℕ) → n ≤ last_number → IsNumber n
number_from n is = omega (arith, is)

has_numbers : (s : Step) → AsksInRange s → TurnNumber (role_of s) → HasNumbers s
has_numbers (Store g turn failed) asked at = number_from turn at
has_numbers (End g turn) asked at = number_from turn at
has_numbers (Abandon g turn) asked at = number_from turn at
has_numbers _ asked at = asked

-- a step of nobody closes no turn
nobodys_numbers : (s : Step) → owner_of s ≡ None → AsksInRange s → HasNumbers s
nobodys_numbers (Store g turn failed) is asked = absurd (none-some _ (sym is))
nobodys_numbers (End g turn) is asked = absurd (none-some _ (sym is))
nobodys_numbers (Abandon g turn) is asked = absurd (none-some _ (sym is))
nobodys_numbers _ is asked = asked

shared_numbered : (w after : Whole) → AreNumbered w → LeavesLess w after → AreNumbered after
shared_numbered w after are less = record {
  counts = λ tenant. subst (λ (m : FinMap text_cmp Account). count_of (map.get m tenant) ≤ last_number) (sym less.accounts) (are.counts tenant);
  entries = λ g e found. are.entries g e (less.entries g e found);
  rows = λ g r found. are.rows g r (sym (ap (λ (m : Rows). map.get m g) less.rows) ∙ found);
  replies = subst AllTold (sym less.replies) are.replies;
}

owned_numbered : (logic : Logic) (w after : Whole) (s : Step) (owner : List ℕ) → AreNumbered w → AsksInRange s → Did logic w s owner after
    → HasNumbers s × AreNumbered after
unfolding context_at shown_to
owned_numbered logic w after s owner are asked d =
    let place = place_in w owner s in
    let seen : Context = context_at (shown_to owner w) place in
    let counted = step_counted logic seen (seen_counted w owner place are) s d.what d.does in
    let stay = does_stay logic seen s (seen_numbered w owner place are) (role_number s asked) counted (did_does logic w after s owner d) in (
      has_numbers s asked stay.turn,
      subst AreNumbered d.leaves (spread_numbered w owner place d.what (role_of s) are counted stay (step_row logic seen s d.what d.does)),
    )

step_numbered : (logic : Logic) (w after : Whole) (s : Step) → AreNumbered w → AsksInRange s → whole_step logic w s ≡ Some after
    → HasNumbers s × AreNumbered after
step_numbered logic w after s are asked h =
    by_owner logic w after s (HasNumbers s × AreNumbered after) h
    (λ is nobodys. (nobodys_numbers s is asked, shared_numbered w after are (shared_leaves w after s nobodys)))
    (λ owner is d. owned_numbered logic w after s owner are asked d)

-- ---- the journal

all_numbered : (logic : Logic) (w after : Whole) (steps : List Step) → AreNumbered w → AllByRecursion AsksInRange steps
    → all_done logic w steps ≡ Some after → AllByRecursion HasNumbers steps × AreNumbered after
all_numbered logic w after [] are asked e = (tt, subst AreNumbered (same_Some w after e) are)
all_numbered logic w after (s ∷ steps) are asked e =
    let next = some_from_and_then (λ x. all_done logic x steps) (whole_step logic w s) after e in
    let one = step_numbered logic w next.0 s are asked.0 next.1 in
    let rest = all_numbered logic next.0 after steps one.1 asked.1 next.2 in
    ((one.0, rest.0), rest.1)

fresh_count : (o : Option Limits) → count_of (option_map fresh_account o) ≤ last_number
fresh_count None = omega arith
fresh_count (Some limits) = omega arith

opens_numbered : (journal : History) → AreNumbered (opening (setup_of journal))
unfolding opening
opens_numbered journal = record {
  counts = λ tenant.
      subst (λ (o : Option Account). count_of o ≤ last_number)
      (sym (ap (λ accounts. map.get accounts tenant) (new_accounts journal.tenants) ∙ get-fresh_accounts journal.tenants tenant))
      (fresh_count (limits_of journal.tenants tenant));
  entries = λ g e found. absurd (none-some e (sym (none_at (setup_of journal) refl g) ∙ found));
  rows = λ g r found. absurd (none-some r (sym (map.get-empty grain_cmp g) ∙ found));
  replies = tt;
}

recorded_told : (replies : List Reply) → AllTold replies → AllByRecursion (λ (r : RecordedReply). ToNumber r.recipient) (all_recorded replies)
recorded_told [] all = tt
recorded_told (r ∷ replies) all = (all.0, recorded_told replies all.1)

pub numbers_in_range : NumbersInRange
numbers_in_range logic journal w leads records asked =
    let all = all_numbered logic (opening (setup_of journal)) w journal.steps (opens_numbered journal) (recursion_from_All AsksInRange journal.steps asked) leads in
    record {
      steps = All-from_recursion HasNumbers journal.steps all.0;
      replies =
          subst (All (λ (r : RecordedReply). ToNumber r.recipient)) (sym records.replies)
          (All-from_recursion (λ (r : RecordedReply). ToNumber r.recipient) (all_recorded w.replies) (recorded_told w.replies all.1.replies));
      versions =
          subst (All (λ (row : Grain × Row). HasVersion row.1)) (sym records.rows)
          (All-from_recursion (λ (row : Grain × Row). HasVersion row.1) (map.entries w.rows)
          (all_weaker (λ (row : Grain × Row). map.get w.rows row.0 ≡ Some row.1) (λ (row : Grain × Row). HasVersion row.1) (map.entries w.rows)
          (λ row found. all.1.rows row.0 row.1 found) (found_entries grain_cmp_total w.rows)));
    }
