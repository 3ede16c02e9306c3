-- Along a run of a tenant's machine its limits hold.
use Rattle.silo_model.proofs.Common.{if◌then◌else◌, ◌+◌, ◌<◌, ◌==◌, ◌∙◌, ◌∷◌, ◌≡◌, ◌≤◌, Abandon, Account, AcrossTenants, Activate, Begin}
use Rattle.silo_model.proofs.Common.{Bool, Call, Change, Context, Deliver, Effect, End, Entry, Err, Fault, Grain, Limits, List, Load, Logic}
use Rattle.silo_model.proofs.Common.{Machine, MailboxFull, NoActivation, NoNumber, None, Ok, Option, Party, Poke, Refuse, Request, Result}
use Rattle.silo_model.proofs.Common.{Row, RowFault, Send, Setup, Some, Status, Step, Store, Sweep, Tick, Tree, UnknownKind, ℕ, [], ap}
use Rattle.silo_model.proofs.Common.{applied, arith, called, change_option, changed_at, cond, context_at, drop, effect_of, false}
use Rattle.silo_model.proofs.Common.{first_from, gate, grain_cmp, grain_cmp_exact, grain_cmp_total, grain_of, keep}
use Rattle.silo_model.proofs.Common.{is_of, kept_entries, kind_age, last_number, length, length-append, limits_of, machine_step, nat_le, nat_lt}
use Rattle.silo_model.proofs.Common.{none-some, option_and_then, option_map, owner_of, poke_settled, poked, put, refl, restricted_to}
use Rattle.silo_model.proofs.Common.{row_poked, row_told, same_Some, same_text, shown_to, spent, stale, start_of, subst, sym, true}
use Rattle.silo_model.proofs.Common.{with_request, with_sends}
use Rattle.std.proofs.Common.{◌-◌}
use Rattle.std.proofs.lemmas.Bool.{ltb-true}
use Rattle.std.proofs.lemmas.List.Sums.{count_by-le-length, length-filter}
use Rattle.finite_maps.proofs.Mapped.{len-mapped, mapped-part}
use Rattle.finite_maps.proofs.Parts.{entries-part}
use Rattle.std.specs.Prelude.{is_some}
use Rattle.std.specs.FinMap as map
use Rattle.request_codec.specs.Call as codec
use Rattle.silo_event.specs.declared.reply.Party.TheVariants as party
use Rattle.grain_logic.specs.Logic.{Outgoing}
use Rattle.silo_model.specs.Asks.{status_told}
use Rattle.silo_model.specs.Calls.{admitted, call_settled, kind_gate, room}
use Rattle.silo_model.specs.Idle.{is_kept}
use Rattle.silo_model.specs.Effect.{found_at}
use Rattle.silo_model.specs.Sends.{delivered, delivered_to, on_account, put_or}
use Rattle.silo_model.specs.Opening.{account_at, awake}
use Rattle.silo_model.specs.Step.{shared_step, step_by, swept}
use Rattle.silo_model.proofs.Changes.{OfPutAt, changed_all}
use Rattle.silo_model.proofs.Contexts.{shown_own}
use Rattle.silo_model.proofs.EffectKinds.{Does, IsLeft, Role, asks, begins, closes, effect_kind, ends, enters, goes, goes_on, nobodys}
use Rattle.silo_model.proofs.EffectKinds.{opens, stays, unloads}
use Rattle.silo_model.proofs.Journals.{all_keep, parts_lead}
use Rattle.silo_model.proofs.Opening.{account_limits, woken_of}
use Rattle.silo_model.proofs.SharedSteps.{get-kept_there}
use Rattle.silo_model.proofs.Tests.{on_found, on_test}
use Rattle.silo_laws.specs.Limits.{LimitsHold}

module _ (limits : Limits) (may : 0 < limits.mailbox) where
  -- ---- what a machine keeps

  record Within (m : Machine) : Type 0 where
    known : (a : Account) → m.account ≡ Some a → a.limits ≡ limits
    few : map.len m.entries ≤ limits.activations
    short : (g : Grain) (e : Entry) → map.get m.entries g ≡ Some e → length e.queue ≤ limits.mailbox

  -- an account that a step leaves has these limits
  abbrev OfLimits : Option Account → Type 0
  OfLimits o = (a : Account) → o ≡ Some a → a.limits ≡ limits

  -- an entry that a step puts is short, and stands where one was or where there is room
  abbrev MayPut : Option Entry → ℕ → Change Entry → Type 0
  MayPut found active keep = Unit {0}
  MayPut found active (put x) = (length x.queue ≤ limits.mailbox) × (found ≡ None → nat_lt active limits.activations ≡ true)
  MayPut found active drop = Unit {0}

  record Fits (s : Context) (e : Effect) : Type 0 where
    account : OfLimits (change_option s.account e.account)
    entry : MayPut s.entry s.active e.entry

  abbrev IsShort : Option Entry → Type 0
  IsShort o = (x : Entry) → o ≡ Some x → length x.queue ≤ limits.mailbox

  -- ---- requests

  -- what the call rule answers: an account that is the owner's, and behind the rule the room
  abbrev IsOwn : Context → Result Account Fault → Type 0
  IsOwn s (Ok a) = s.account ≡ Some a
  IsOwn s (Err why) = Unit {0}

  abbrev RoomFor : Context → Account → Option Entry → Type 0
  RoomFor s a None = nat_lt s.active a.limits.activations ≡ true
  RoomFor s a (Some x) = nat_lt (length x.queue) a.limits.mailbox ≡ true

  abbrev HasRoom : Context → Result Account Fault → Type 0
  HasRoom s (Ok a) = (s.account ≡ Some a) × RoomFor s a s.entry
  HasRoom s (Err why) = Unit {0}

  by_kind : (s : Context) (a : Account) (b : Bool) (why : Fault) → s.account ≡ Some a → IsOwn s (if b then Ok a else Err why)
  by_kind s a true why is = is
  by_kind s a false why is = tt

  gate_own : (logic : Logic) (s : Context) (g : Grain) (found : Option Account) → s.account ≡ found → IsOwn s (gate logic s found g)
  gate_own logic s g None is = tt
  gate_own logic s g (Some a) is =
      on_test (λ b. IsOwn s (if b then kind_gate logic a g else Err (AcrossTenants s.tenant g.tenant))) (same_text g.tenant s.tenant)
      (λ _. by_kind s a (logic.knows g.kind) (UnknownKind g.kind) is) (λ _. tt)

  room_by : (s : Context) (g : Grain) (a : Account) → s.account ≡ Some a → (found : Option Entry) → s.entry ≡ found → HasRoom s (room s a g found)
  room_by s g a is None there =
      on_test (λ b. HasRoom s (if b then Ok a else Err (NoActivation s.tenant))) (nat_lt s.active a.limits.activations)
      (λ free. (is, subst (RoomFor s a) (sym there) free)) (λ _. tt)
  room_by s g a is (Some x) there =
      on_test (λ b. HasRoom s (if b then Ok a else Err (MailboxFull g))) (nat_lt (length x.queue) a.limits.mailbox)
      (λ free. (is, subst (RoomFor s a) (sym there) free)) (λ _. tt)

  admitted_room : (s : Context) (g : Grain) (r : Result Account Fault) → IsOwn s r → HasRoom s (admitted s g r)
  admitted_room s g (Err why) own = tt
  admitted_room s g (Ok a) own =
      on_test (λ b. HasRoom s (if b then Err (NoNumber s.tenant) else room s a g s.entry)) (a.count == last_number) (λ _. tt)
      (λ _. room_by s g a own s.entry refl)

  module _ (s : Context) (known : OfLimits s.account) (short : IsShort s.entry) where
    nothing_put : {e : Effect} → e.account ≡ keep → e.entry ≡ keep → Fits s e
    nothing_put account entry = record {
      account = λ a is. known a (ap (change_option s.account) (sym account) ∙ is);
      entry = subst (MayPut s.entry s.active) (sym entry) tt;
    }

    -- the entry with one more request
    put_by : (q : Request) (a : Account) → a.limits ≡ limits → (found : Option Entry) → s.entry ≡ found → RoomFor s a found → MayPut s.entry s.active (put (with_request s.clock q found))
    put_by q a is None there free = (omega (arith, may), λ _. ap (λ (l : Limits). nat_lt s.active l.activations) (sym is) ∙ free)
    put_by q a is (Some x) there free = (
      omega (arith, length-append x.queue (q ∷ []), ltb-true (length x.queue) limits.mailbox (ap (λ (l : Limits). nat_lt (length x.queue) l.mailbox) (sym is) ∙ free)),
      λ none. absurd (none-some x (sym none ∙ there)),
    )

    settled_fits : (p : Party) (call : codec.Call) (r : Result Account Fault) → HasRoom s r → Fits s (call_settled s p call r)
    settled_fits p call (Err why) has = nothing_put refl refl
    settled_fits p call (Ok a) has = record {
      account = λ b is. ap (λ (x : Account). x.limits) (sym (same_Some _ b is)) ∙ known a has.0;
      entry = put_by (record { number = a.count + 1; sender = p; call = call }) a (known a has.0) s.entry refl has.1;
    }

    called_fits : (logic : Logic) (p : Party) (g : Grain) (call : codec.Call) → Fits s (called logic s p g call)
    unfolding called
    called_fits logic p g call = settled_fits p call _ (admitted_room s g _ (gate_own logic s g s.account refl))

    -- ---- deliveries

    left_by : (o : Option Account) (rest : Account) (c : Change Account) → change_option o (put_or rest c) ≡ change_option (Some rest) c
    left_by o rest keep = refl
    left_by o rest (put a) = refl
    left_by o rest drop = refl

    abbrev seen : Account → Context
    seen rest = record s { account = Some rest }

    over : (rest : Account) (e : Effect) → Fits (seen rest) e → Fits s (on_account rest e)
    over rest e fits = record { account = λ a is. fits.account a (sym (left_by s.account rest e.account) ∙ is); entry = fits.entry }

  module _ (logic : Logic) (s : Context) (known : OfLimits s.account) (short : IsShort s.entry) where
    first_fits : (g : Grain) (a : Account) → s.account ≡ Some a → (o : Option (Send × List Send)) (e : Effect) → option_map (delivered_to logic s g a) o ≡ Some e → Fits s e
    first_fits g a is None e none = absurd (none-some e none)
    first_fits g a is (Some found) e does =
        let rest : Account = record a { sends = found.1 } in
        let of_rest : OfLimits (Some rest) = λ b same. ap (λ (x : Account). x.limits) (sym (same_Some rest b same)) ∙ known a is in
        subst (Fits s) (same_Some _ e does)
        (over s known short rest _ (called_fits (record s { account = Some rest }) of_rest short logic (party.Grain g) found.0.message.target found.0.message.call))

    delivered_fits : (g : Grain) (account : Option Account) → s.account ≡ account → (e : Effect) → option_and_then (delivered logic s g) account ≡ Some e → Fits s e
    delivered_fits g None is e none = absurd (none-some e none)
    delivered_fits g (Some a) is e does = first_fits g a is (first_from g a.sends) e does

    -- ---- pokes and status

    row_told_fits : (p : Party) (g : Grain) (r : Result (Option ℕ × Change Row) RowFault) → Fits s (row_told p g r)
    row_told_fits p g (Ok done) = nothing_put s known short refl refl
    row_told_fits p g (Err (stale found)) = nothing_put s known short refl refl
    row_told_fits p g (Err spent) = nothing_put s known short refl refl

    poke_fits : (p : Party) (g : Grain) (state : Tree) (failed : Bool) (r : Result Account Fault) → Fits s (poke_settled s p g state failed r)
    poke_fits p g state true (Ok a) = nothing_put s known short refl refl
    poke_fits p g state false (Ok a) = row_told_fits p g (row_poked s.row state)
    poke_fits p g state failed (Err why) = nothing_put s known short refl refl

    poked_fits : (p : Party) (g : Grain) (state : Tree) (failed : Bool) → Fits s (poked logic s p g state failed)
    unfolding poked
    poked_fits p g state failed = poke_fits p g state failed (gate logic s s.account g)

    status_fits : (p : Party) (account : Option Account) → Fits s (status_told s p account)
    status_fits p None = nothing_put s known short refl refl
    status_fits p (Some a) = nothing_put s known short refl refl

    -- ---- entries and turns

    there : (e : Entry) → s.entry ≡ Some e → s.entry ≡ None → nat_lt s.active limits.activations ≡ true
    there e is none = absurd (none-some e (sym none ∙ is))

    sends_fit : (g : Grain) (account : Option Account) → OfLimits account → (sends : List Outgoing) → OfLimits (change_option account (with_sends g account sends))
    sends_fit g account own [] = own
    sends_fit g None own (o ∷ os) = own
    sends_fit g (Some a) own (o ∷ os) = λ b is. ap (λ (x : Account). x.limits) (sym (same_Some _ b is)) ∙ own a refl

    left_fits : (g : Grain) (e : Entry) (request : Request) (left : Change Entry) → s.entry ≡ Some e → IsLeft logic g e request left → MayPut s.entry s.active left
    left_fits g e request _ is (stays new queue turns rests said) = (omega (arith, short e is, ap length queue), there e is)
    left_fits g e request _ is (goes none turns) = tt

    abbrev FitsBy : Role → Effect → Type 0
    FitsBy (asks p) e = Unit {0}
    FitsBy (enters g) e = Fits s e
    FitsBy (begins g) e = Fits s e
    FitsBy (ends g turn) e = Fits s e
    FitsBy nobodys e = Unit {0}

    does_fits : {step : Step} {role : Role} {grain : Option Grain} {e : Effect} → Does logic s step role grain e → FitsBy role e
    does_fits (goes_on g e phase until resting is busy entered) = record { account = known; entry = (short e is, there e is) }
    does_fits (unloads g e is busy) = record { account = known; entry = tt }
    does_fits (opens g e first others is rested queue may_begin) = record { account = known; entry = (omega (arith, short e is, ap length queue), there e is) }
    does_fits (closes g turn e request left sends row outcome is open_turn is_left by_sends by_row) =
        record { account = sends_fit g s.account known sends; entry = left_fits g e request left is is_left }
    does_fits _ = tt

    -- ---- each kind of step

    step_fits : (step : Step) (e : Effect) → effect_of logic s step ≡ Some e → Fits s e
    unfolding effect_of
    step_fits (Refuse caller id code) e does = subst (Fits s) (same_Some _ e does) (nothing_put s known short refl refl)
    step_fits (Call caller id g call) e does = subst (Fits s) (same_Some _ e does) (called_fits s known short logic (party.Client caller id) g call)
    step_fits (Poke failed caller id g state) e does = subst (Fits s) (same_Some _ e does) (poked_fits (party.Client caller id) g state failed)
    step_fits (Status caller id) e does = subst (Fits s) (same_Some _ e does) (status_fits (party.Client caller id) s.account)
    step_fits (Deliver g) e does = delivered_fits g s.account refl e does
    step_fits (Activate g) e does = does_fits (effect_kind logic s (Activate g) e does)
    step_fits (Load g failed) e does = does_fits (effect_kind logic s (Load g failed) e does)
    step_fits (Begin g) e does = does_fits (effect_kind logic s (Begin g) e does)
    step_fits (Store g turn failed) e does = does_fits (effect_kind logic s (Store g turn failed) e does)
    step_fits (End g turn) e does = does_fits (effect_kind logic s (End g turn) e does)
    step_fits (Abandon g turn) e does = does_fits (effect_kind logic s (Abandon g turn) e does)
    step_fits (Tick now) e does = absurd (none-some e does)
    step_fits Sweep e does = absurd (none-some e does)

  -- ---- a machine's steps

  module _ (m : Machine) (within : Within m) where
    one_less : (b : Bool) (n : ℕ) → cond b (n - 1) n ≤ n
    one_less true n = omega arith
    one_less false n = omega arith

    few_put : (found : Option Entry) → (found ≡ None → nat_lt (map.len m.entries) limits.activations ≡ true)
        → cond (is_some found) (map.len m.entries) (map.len m.entries + 1) ≤ limits.activations
    few_put None room = omega (arith, ltb-true (map.len m.entries) limits.activations (room refl))
    few_put (Some x) room = within.few

    few_by : (grain : Option Grain) (c : Change Entry) → MayPut (found_at m.entries grain) (map.len m.entries) c → map.len (changed_at m.entries grain c) ≤ limits.activations
    few_by None c h = within.few
    few_by (Some g) keep h = within.few
    few_by (Some g) (put x) h = omega (arith, map.len-insert grain_cmp_total m.entries g x, few_put (map.get m.entries g) h.1)
    few_by (Some g) drop h = omega (arith, map.len-remove grain_cmp_total m.entries g, one_less (map.contains_key m.entries g) (map.len m.entries), within.few)

    abbrev Short : Grain → Entry → Type 0
    Short g e = length e.queue ≤ limits.mailbox

    put_at : (grain : Option Grain) (c : Change Entry) (found : Option Entry) (active : ℕ) → MayPut found active c → OfPutAt Short grain c
    put_at grain keep found active h = tt
    put_at None (put x) found active h = tt
    put_at (Some g) (put x) found active h = h.0
    put_at grain drop found active h = tt

    short_at : (grain : Option Grain) → IsShort (found_at m.entries grain)
    short_at None x is = absurd (none-some x is)
    short_at (Some g) x is = within.short g x is

    applied_within : (logic : Logic) (grain : Option Grain) (step : Step) (e : Effect) → effect_of logic (context_at m grain) step ≡ Some e → Within (applied m grain e)
    unfolding applied context_at
    applied_within logic grain step e does =
        let fits = step_fits logic (context_at m grain) within.known (short_at grain) step e does in
        record {
          known = fits.account;
          few = few_by grain e.entry fits.entry;
          short = changed_all grain_cmp_total grain_cmp_exact Short m.entries grain e.entry within.short (put_at grain e.entry (found_at m.entries grain) (map.len m.entries) fits.entry);
        }

    -- what stays is no more
    fewer : (p : Grain → Bool) → map.len (map.retain_keys m.entries p) ≤ map.len m.entries
    fewer p =
        omega (
          arith,
          map.len-entries (map.retain_keys m.entries p),
          ap length (entries-part grain_cmp_total grain_cmp_exact m.entries p),
          length-filter (λ (e : Grain × Entry). p e.0) (map.entries m.entries),
          count_by-le-length (λ (e : Grain × Entry). p e.0) (map.entries m.entries),
          map.len-entries m.entries,
        )

    swept_within : Within (swept m)
    unfolding kept_entries
    swept_within = record {
      known = within.known;
      few = omega (arith, fewer (λ g. is_kept m.clock (kind_age m.ages m.age g.kind) (map.get m.entries g)), within.few);
      short = λ g e found. within.short g e (get-kept_there m.clock (kind_age m.ages m.age) m.entries g e found);
    }

    shared_within : (next : Machine) (step : Step) → shared_step m step ≡ Some next → Within next
    shared_within next (Tick now) h =
        on_test (λ b. (if b then Some (record m { clock = now }) else None) ≡ Some next → Within next) (nat_le m.clock now)
        (λ _ is. subst Within (same_Some _ next is) (record { known = within.known; few = within.few; short = within.short }))
        (λ _ none. absurd (none-some next none)) h
    shared_within next Sweep h = subst Within (same_Some (swept m) next h) swept_within
    shared_within next _ h = absurd (none-some next h)

    step_within : (logic : Logic) (next : Machine) (step : Step) → machine_step logic m step ≡ Some next → Within next
    unfolding machine_step
    step_within logic next step h =
        let grain = grain_of m.account step in
        on_found (λ o. step_by logic m step o ≡ Some next → Within next) (owner_of step) (λ _ is. shared_within next step is)
        (λ owner _.
        on_found (λ (o : Option Effect). option_map (applied m grain) o ≡ Some next → Within next) (effect_of logic (context_at m grain) step)
        (λ _ none. absurd (none-some next none)) (λ e does is. subst Within (same_Some _ next is) (applied_within logic grain step e does)))
        h

  few_up : (setup : Setup) (tenant : List ℕ) → map.len (start_of setup tenant).entries ≡ map.len (map.retain_keys setup.kept.grains (is_of tenant))
  unfolding start_of
  few_up setup tenant =
      ap map.len (sym (mapped-part grain_cmp_total grain_cmp_exact awake setup.kept.grains (is_of tenant)))
      ∙ len-mapped grain_cmp_total grain_cmp_exact awake (map.retain_keys setup.kept.grains (is_of tenant))

  start_within : (setup : Setup) (tenant : List ℕ) → limits_of setup.tenants tenant ≡ Some limits → map.len (map.retain_keys setup.kept.grains (is_of tenant)) ≤ limits.activations
      → Within (start_of setup tenant)
  unfolding start_of
  start_within setup tenant is few_kept = record {
    known = λ a same.
        ap (λ (x : Account). x.limits) (sym (same_Some (account_at setup.kept tenant limits) a (sym (ap (option_map (account_at setup.kept tenant)) is) ∙ same)))
        ∙ account_limits tenant limits (map.get setup.kept.accounts tenant);
    few = omega (arith, few_up setup tenant, few_kept);
    short = λ g e found. let k = woken_of setup tenant g e found in subst (λ (x : Entry). length x.queue ≤ limits.mailbox) k.1 (omega arith);
  }

pub limits_hold : LimitsHold
unfolding shown_to
limits_hold logic setup journal w tenant limits leads known may few_kept =
    let within =
    all_keep (machine_step logic) (Within limits may) (λ m next s holds step. step_within limits may m holds logic next s step)
    (start_of setup tenant) (shown_to tenant w) (restricted_to tenant journal) (start_within limits may setup tenant known few_kept)
    (parts_lead logic setup journal w tenant leads) in
    record { activations = within.few; mailboxes = λ g e own found. within.short g e (shown_own w tenant g own ∙ found) }
