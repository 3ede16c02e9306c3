-- A turn that is given up sends nothing, so a call that is delivered while too many wait leaves the others alone.
use Rattle.silo_model.proofs.Common.{if◌then◌else◌, ◌<◌, ◌==◌, ◌||◌, ◌∙◌, ◌∷◌, ◌≡◌, ◌⊎◌, Abandon, Account, AcrossTenants, Activate}
use Rattle.silo_model.proofs.Common.{AllByRecursion, Begin, Bool, Context, Deliver, Effect, Entry, Err, Fault, Grain, List, Load, Logic}
use Rattle.silo_model.proofs.Common.{MailboxFull, NoActivation, NoNumber, None, Ok, Option, Party, Request, Result, Send, Some, Step, Whole}
use Rattle.silo_model.proofs.Common.{[], ap, called, change_at, change_option, context_at, false, first_from, gate, inl, inr, keep}
use Rattle.silo_model.proofs.Common.{last_number, length, lt-ltb, nat_lt, refl, same_text, sender_by, sends_of, shown_to, spread, subst}
use Rattle.silo_model.proofs.Common.{sym, text_cmp_exact, text_cmp_total, true, true≢false, unwrap_or, whole_run, whole_step, with_sends, ℕ}
use Rattle.std.specs.FinMap as map
use Rattle.request_codec.specs.Call as codec
use Rattle.silo_event.specs.declared.reply.Party.TheVariants as party
use Rattle.tenant_accounts.specs.Sends.{sent_bytes}
use Rattle.silo_model.specs.Calls.{admitted, call_settled, kind_gate, room}
use Rattle.silo_model.specs.Sends.{on_account}
use Rattle.silo_model.proofs.Changes.{get-change_same}
use Rattle.silo_model.proofs.EffectKinds.{Does, Role, accepts, asks, closes, pokes, role_of, tells}
use Rattle.silo_model.proofs.Isolation.{Did, did, did_does}
use Rattle.silo_model.proofs.Runs.{whole_after}
use Rattle.silo_model.proofs.SendSteps.{by_called}
use Rattle.silo_model.proofs.Tests.{on_found}
use Rattle.answer_model.specs.Answering.{Luck, Stepper, can, given_up_if, is_accepted, out_of_memory, raising, serving, serving_if}
use Rattle.answer_model.specs.Answering.{too_many_wait, turn_of, turn_of_first, turning, waiting_bytes, waiting_calls, whole_stepper}
use Rattle.answer_model.specs.Waiting.{NoneAdded, TooMany}
use Rattle.answer_model.proofs.Served.{account_of, source_own}
use Rattle.finite_maps.proofs.Lists.{all_append}

-- ---- the delivery

-- the account that is admitted is this one
abbrev IsOf : Account → Result Account Fault → Type 0
IsOf a (Ok x) = x ≡ a
IsOf a (Err why) = Unit {0}

if_of : (a : Account) (b : Bool) (r other : Result Account Fault) → IsOf a r → IsOf a other → IsOf a (if b then r else other)
if_of a true r other is also = is
if_of a false r other is also = also

module _ (logic : Logic) (s : Context) (g : Grain) (a : Account) where
  gate_of : IsOf a (gate logic s (Some a) g)
  gate_of =
      if_of a (same_text g.tenant s.tenant) (kind_gate logic a g) (Err (AcrossTenants s.tenant g.tenant))
      (if_of a (logic.knows g.kind) (Ok a) _ refl tt) tt

  room_of : (found : Option Entry) → IsOf a (room s a g found)
  room_of None = if_of a (nat_lt s.active a.limits.activations) (Ok a) (Err (NoActivation s.tenant)) refl tt
  room_of (Some e) = if_of a (nat_lt (length e.queue) a.limits.mailbox) (Ok a) (Err (MailboxFull g)) refl tt

  admitted_of : (r : Result Account Fault) → IsOf a r → IsOf a (admitted s g r)
  admitted_of (Ok x) is =
      subst (λ y. IsOf a (if y.count == last_number then Err (NoNumber s.tenant) else room s y g s.entry)) (sym is)
      (if_of a (a.count == last_number) (Err (NoNumber s.tenant)) (room s a g s.entry) tt (room_of s.entry))
  admitted_of (Err why) is = tt

  -- what is left is left whether the request is accepted or refused
  settled_leaves : (o : Option Account) (p : Party) (call : codec.Call) (r : Result Account Fault) → IsOf a r
      → sends_of (change_option o (on_account a (call_settled s p call r)).account) ≡ a.sends
  settled_leaves o p call (Ok x) is = ap (λ (y : Account). y.sends) is
  settled_leaves o p call (Err why) is = refl

module _ (logic : Logic) (w : Whole) (g : Grain) (a : Account) (known : map.get w.accounts g.tenant ≡ Some a) (sent : Send)
    (others : List Send) (first : first_from g a.sends ≡ Some (sent, others)) where
  abbrev rest : Account
  rest = record a { sends = others }

  abbrev target : Grain
  target = sent.message.target

  abbrev seen : Context
  seen = record (context_at (shown_to g.tenant w) (Some target)) { account = Some rest }

  -- in its own account
  abbrev LeavesOthers : Effect → Type 0
  LeavesOthers e = sends_of (change_option (map.get w.accounts g.tenant) (on_account rest e).account) ≡ others

  called_leaves : LeavesOthers (called logic seen (party.Grain g) target sent.message.call)
  unfolding called
  called_leaves =
      settled_leaves logic seen target rest (map.get w.accounts g.tenant) (party.Grain g) sent.message.call _
      (admitted_of logic seen target rest _ (gate_of logic seen target rest))

  own_left : sends_of (map.get (whole_after logic w (Deliver g)).accounts g.tenant) ≡ others
  unfolding spread
  own_left =
      let e = called logic seen (party.Grain g) target sent.message.call in
      ap (λ o. sends_of (map.get (unwrap_or o w).accounts g.tenant)) (by_called logic w g a known sent others first e refl)
      ∙ ap sends_of (get-change_same text_cmp_total text_cmp_exact w.accounts g.tenant (on_account rest e).account)
      ∙ called_leaves

-- ---- steps that leave what was sent

-- one of these that is done changes no account
abbrev KeepsAccount : Role → Effect → Type 0
KeepsAccount (asks p) e = Unit {0}
KeepsAccount _ e = e.account ≡ keep

does_keep : (logic : Logic) (s : Context) (step : Step) {role : Role} {grain : Option Grain} {e : Effect} → sender_by step ≡ []
    → Does logic s step role grain e → KeepsAccount role e
does_keep logic s step none (closes g turn e request left sends row outcome found open_turn is_left (inl silent) by_row) =
    ap (with_sends g s.account) silent
does_keep logic s step none (closes g turn e request left sends row outcome found open_turn is_left (inr sender) by_row) =
    absurd (let a = none in let b = sender in cc)
does_keep logic s step none (tells p grain left outcome remains) = tt
does_keep logic s step none (pokes p g row outcome own touches) = tt
does_keep logic s step none (accepts p g call left a own remains known) = tt
does_keep logic s step none _ = refl

abbrev leaves_accounts : Step → Bool
leaves_accounts (Activate g) = true
leaves_accounts (Load g failed) = true
leaves_accounts (Begin g) = true
leaves_accounts (Abandon g turn) = true
leaves_accounts _ = false

abbrev AllLeave : List Step → Type 0
AllLeave steps = AllByRecursion (λ s. leaves_accounts s ≡ true) steps

module _ (logic : Logic) where
  kept_by : (w after : Whole) (s : Step) (owner : List ℕ) (d : Did logic w s owner after) → d.what.account ≡ keep
      → after.accounts ≡ w.accounts
  unfolding spread
  kept_by w after s owner d keeps = sym (ap (λ (x : Whole). x.accounts) d.leaves) ∙ ap (change_at w.accounts owner) keeps

  role_keeps : (w after : Whole) (s : Step) (owner : List ℕ) → sender_by s ≡ [] → (d : Did logic w s owner after)
      → KeepsAccount (role_of s) d.what
  unfolding context_at shown_to
  role_keeps w after s owner none d = does_keep logic _ s none (did_does logic w after s owner d)

  step_leaves : (w after : Whole) (s : Step) → leaves_accounts s ≡ true → whole_step logic w s ≡ Some after → after.accounts ≡ w.accounts
  step_leaves w after (Activate g) is step =
      let d = did logic w after (Activate g) g.tenant refl step in
      kept_by w after (Activate g) g.tenant d (role_keeps w after (Activate g) g.tenant refl d)
  step_leaves w after (Load g failed) is step =
      let d = did logic w after (Load g failed) g.tenant refl step in
      kept_by w after (Load g failed) g.tenant d (role_keeps w after (Load g failed) g.tenant refl d)
  step_leaves w after (Begin g) is step =
      let d = did logic w after (Begin g) g.tenant refl step in
      kept_by w after (Begin g) g.tenant d (role_keeps w after (Begin g) g.tenant refl d)
  step_leaves w after (Abandon g turn) is step =
      let d = did logic w after (Abandon g turn) g.tenant refl step in
      kept_by w after (Abandon g turn) g.tenant d (role_keeps w after (Abandon g turn) g.tenant refl d)
  step_leaves w after _ is step = absurd (true≢false (sym is))

  run_leaves : (steps : List Step) (w : Whole) → AllLeave steps → (whole_run logic w steps).accounts ≡ w.accounts
  run_leaves [] w all = refl
  run_leaves (s ∷ steps) w all =
      run_leaves steps (whole_after logic w s) all.1
      ∙ on_found (λ o. (unwrap_or o w).accounts ≡ w.accounts) (whole_step logic w s) (λ _. refl)
      (λ after step. step_leaves w after s all.0 step)

  -- ---- the steps of a request whose turn is given up

  abbrev by : Stepper Whole
  by = whole_stepper logic

  if_leave : (b : Bool) (steps others : List Step) → AllLeave steps → AllLeave others → AllLeave (if b then steps else others)
  if_leave true steps others all more = all
  if_leave false steps others all more = more

  first_leaves : (w : Whole) (g : Grain) (queue : List Request) → AllLeave (turn_of_first by w g out_of_memory queue)
  first_leaves w g [] = tt
  first_leaves w g (first ∷ others) = (refl, (refl, tt))

  turn_leaves : (w : Whole) (g : Grain) (found : Option Entry) → AllLeave (turn_of by w g out_of_memory found)
  turn_leaves w g None = tt
  turn_leaves w g (Some e) = first_leaves w g e.queue

  serving_leaves : (w : Whole) (g : Grain) (luck : Luck) → luck.closing ≡ out_of_memory → AllLeave (serving by w g luck)
  serving_leaves w g luck gives_up =
      let up = raising by w g luck.loading_failed in
      let next = whole_run logic w up in
      all_append (λ s. leaves_accounts s ≡ true) up (turning by next g luck.closing)
      (if_leave (can by w (Activate g)) _ _ (refl, (refl, tt)) tt)
      (subst (λ how. AllLeave (turning by next g how)) (sym gives_up)
      (if_leave (can by next (Begin g)) _ _ (turn_leaves next g (map.get next.entries g)) tt))

  served_leaves : (before after : Whole) (grain : Option Grain) (luck : Luck) → luck.closing ≡ out_of_memory
      → AllLeave (serving_if by before after grain luck)
  served_leaves before after None luck gives_up = tt
  served_leaves before after (Some g) luck gives_up = if_leave (is_accepted by before after) _ _ (serving_leaves after g luck gives_up) tt

given_up : (b : Bool) (luck : Luck) → b ≡ true → (given_up_if b luck).closing ≡ out_of_memory
given_up true luck many = refl
given_up false luck many = absurd (true≢false (sym many))

-- the test of it
more_than : (a b c d : ℕ) → (a < b) ⊎ (c < d) → (nat_lt a b || nat_lt c d) ≡ true
more_than a b c d (inl more) = ap (λ x. x || nat_lt c d) (lt-ltb a b more)
more_than a b c d (inr more) = ap (λ x. nat_lt a b || x) (lt-ltb c d more) ∙ or_true (nat_lt a b)
  where
    or_true : (x : Bool) → (x || true) ≡ true
    or_true true = refl
    or_true false = refl

many_wait : (sends : List Send) → TooMany sends → too_many_wait sends ≡ true
many_wait sends many = more_than waiting_calls (length sends) waiting_bytes (sent_bytes sends) many

pub none_added : NoneAdded
none_added logic setup journal w tenant oldest others luck leads is many =
    let g = oldest.source in
    let how = given_up_if (too_many_wait (oldest ∷ others)) luck in
    let next = whole_after logic w (Deliver g) in
    let own = source_own logic setup tenant oldest others w (journal, leads) is in
    let known = account_of logic setup tenant oldest others w is in
    let served = serving_if (whole_stepper logic) w next (Some oldest.message.target) how in
    ap (λ accounts. sends_of (map.get accounts tenant))
    (run_leaves logic served next
    (served_leaves logic w next (Some oldest.message.target) how (given_up (too_many_wait (oldest ∷ others)) luck (many_wait (oldest ∷ others) many))))
    ∙ ap (λ t. sends_of (map.get next.accounts t)) (sym own)
    ∙ own_left logic w g known.0 (ap (map.get w.accounts) own ∙ known.1) oldest others known.2
