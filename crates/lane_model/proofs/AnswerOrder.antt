-- In a paced journal each client is answered in the order in which it asked.
use Rattle.silo_model.proofs.Common.{◌++◌, ◌+◌, ◌∙◌, ◌∷◌, ◌≡◌, ◌≤◌, Bool, Client, List, Logic, Machine, Party, ReadersAskNothing, Reply}
use Rattle.silo_model.proofs.Common.{Setup, Some, Step, Whole, [], and_parts, ap, append-nil, append_assoc, arith, client_eq}
use Rattle.silo_model.proofs.Common.{client_eq_decides, concerns, cond, false, filter, has_pending, is_to, machine_run, machine_step}
use Rattle.silo_model.proofs.Common.{not-true, option_map, refl, restricted_to, same_text, shown_to, start_of, subst, sum_by, sum_by-append}
use Rattle.silo_model.proofs.Common.{sum_by-cons, sym, tenant_of, true, unwrap_or, ℕ}
use Rattle.std.proofs.lemmas.List.Elements.{filter-append}
use Rattle.std.proofs.lemmas.List.{append_assoc}
use Rattle.std.proofs.lemmas.Grind.{flat_map-append}
use Rattle.silo_event.specs.declared.reply.Party.TheVariants as party
use Rattle.silo_model.proofs.Runs.{machine_after, run_by-append}
use Rattle.silo_model.proofs.Tests.{either_way, on_found, on_test}
use Rattle.lane_model.proofs.Askers.{apart_asks_nothing, asked_weight, clients_apart, is_front, no_number, none_pending, told_weight, weigh}
use Rattle.lane_model.proofs.Askers.{weigh_quiet}
use Rattle.silo_model.proofs.Fair.{pend}
use Rattle.silo_model.proofs.Moves.{sent}
use Rattle.silo_model.proofs.StepMoves.{IsFairMachine, MachineMoves, machine_moves}
use Rattle.silo_model.proofs.FairRuns.{asks_always, run_fair, start_balance, start_fair}
use Rattle.lane_model.specs.Asking.{asker_of, asking_of, id_asked, id_of, ids_asked, ids_told}
use Rattle.lane_model.specs.Pacing.{AnsweredInOrder, is_paced, machine_of, may_ask, paced_from}
use Rattle.lane_model.proofs.Filtered.{flat_map-filter}
use Rattle.lane_model.proofs.PacedGrowth.{part_is_run}

-- ---- what a client is still owed

-- Of the numbers under which the client asked, in order, the first were told; what is left, at most one, waits or is open.
pub record Owed (client : Client) (steps : List Step) (m : Machine) : Type 0 where
  pub owed : List ℕ
  pub short : sum_by (λ x. 1) owed ≤ 1
  pub order : ids_asked client steps ≡ ids_told client m.replies ++ owed
  pub weighs : (f : ℕ → ℕ) → pend (sent (weigh client f)) m.entries ≡ sum_by f owed

pub asked_more : (client : Client) (steps : List Step) (s : Step) → ids_asked client (steps ++ s ∷ []) ≡ ids_asked client steps ++ id_asked client (asking_of s)
asked_more client steps s = flat_map-append (λ r. id_asked client (asking_of r)) steps (s ∷ []) ∙ ap (λ ids. ids_asked client steps ++ ids) (append-nil (id_asked client (asking_of s)))

-- a step that isn't the client's, and leaves the machine
owed_still : (client : Client) (steps : List Step) (m : Machine) (s : Step) → id_asked client (asking_of s) ≡ [] → Owed client steps m → Owed client (steps ++ s ∷ []) m
owed_still client steps m s nothing old = record {
  owed = old.owed;
  short = old.short;
  order = asked_more client steps s ∙ ap (λ ids. ids_asked client steps ++ ids) nothing ∙ append-nil (ids_asked client steps) ∙ old.order;
  weighs = old.weighs;
}

module _ (logic : Logic) (law : ReadersAskNothing logic) (client : Client) (steps : List Step) (m : Machine) (s : Step) (fair : IsFairMachine logic m) (old : Owed client steps m)
    (paced : asker_of s ≡ Some client → has_pending client m ≡ false) where
  abbrev asks : List ℕ
  asks = id_asked client (asking_of s)

  none_owed : has_pending client m ≡ false → sum_by (λ x. 1) old.owed ≡ 0
  none_owed none = sym (old.weighs (λ x. 1)) ∙ none_pending client (λ x. 1) m none

  short_by : sum_by (λ x. 1) old.owed + sum_by (λ x. 1) asks ≤ 1
  short_by =
      on_found (λ o. sum_by (λ x. 1) old.owed + sum_by (λ x. 1) (id_asked client o) ≤ 1) (asking_of s) (λ _. omega (arith, old.short))
      (λ asking is.
      on_test (λ b. sum_by (λ x. 1) old.owed + sum_by (λ x. 1) (cond b (asking.1 ∷ []) []) ≤ 1) (client_eq asking.0 client)
      (λ same.
      let asker : asker_of s ≡ Some client =
      ap (option_map (λ (a : Client × ℕ). a.0)) is ∙ ap Some ((client_eq_decides asking.0 client).0 same) in
      omega (arith, none_owed (paced asker), sum_by-cons (λ x. 1) asking.1 []))
      (λ _. omega (arith, old.short)))

  short_then : sum_by (λ x. 1) (old.owed ++ asks) ≤ 1
  short_then = omega (arith, short_by, sum_by-append (λ x. 1) old.owed asks)

  module _ (new : Machine) (is : machine_step logic m s ≡ Some new) where
    moves : MachineMoves logic m s new
    moves = machine_moves logic law m new s fair is

    abbrev told : List ℕ
    told = ids_told client moves.added

    told_grows : ids_told client new.replies ≡ ids_told client m.replies ++ told
    told_grows = ap (ids_told client) moves.replies ∙ flat_map-append (λ (r : Reply). id_of client r.recipient) m.replies moves.added

    weights : (f : ℕ → ℕ) → sum_by f told + pend (sent (weigh client f)) new.entries ≡ sum_by f (old.owed ++ asks)
    weights f =
        omega (
          arith,
          moves.balance (weigh client f) (weigh_quiet client f),
          told_weight client f new.replies,
          told_weight client f m.replies,
          ap (sum_by f) told_grows,
          sum_by-append f (ids_told client m.replies) told,
          old.weighs f,
          asked_weight client f s,
          sum_by-append f old.owed asks,
        )

    owed_next : Owed client (steps ++ s ∷ []) new
    owed_next =
        let front = is_front (old.owed ++ asks) told short_then (λ f. omega (arith, weights f)) in
        record {
          owed = front.0;
          short = omega (arith, short_then, ap (sum_by (λ x. 1)) front.1, sum_by-append (λ x. 1) told front.0);
          order = asked_more client steps s
              ∙ ap (λ ids. ids ++ asks) old.order
              ∙ append_assoc (ids_told client m.replies) old.owed asks
              ∙ ap (λ ids. ids_told client m.replies ++ ids) front.1
              ∙ sym (append_assoc (ids_told client m.replies) told front.0)
              ∙ ap (λ ids. ids ++ front.0) (sym told_grows);
          weighs = λ f. omega (arith, weights f, ap (sum_by f) front.1, sum_by-append f told front.0);
        }

  owed_after : Owed client (steps ++ s ∷ []) (machine_after logic m s)
  owed_after =
      on_found (λ r. Owed client (steps ++ s ∷ []) (unwrap_or r m)) (machine_step logic m s)
      (λ is. owed_still client steps m s (ap (id_asked client) (asks_always logic m s is)) old) owed_next

-- ---- a paced journal

module _ (logic : Logic) (law : ReadersAskNothing logic) (setup : Setup) (client : Client) where
  abbrev at_client : List Step → Machine
  at_client steps = machine_of logic setup steps client

  abbrev start : Machine
  start = start_of setup client.tenant

  abbrev struck : List Step → List Step
  struck steps = restricted_to client.tenant steps

  at_more : (steps : List Step) (s : Step) (b : Bool) → concerns client.tenant s ≡ b → at_client (steps ++ s ∷ []) ≡ cond b (machine_after logic (at_client steps) s) (at_client steps)
  at_more steps s b is =
      ap (machine_run logic start) (filter-append (concerns client.tenant) steps (s ∷ []) ∙ ap (λ x. struck steps ++ cond x (s ∷ []) []) is)
      ∙ on_test (λ x. machine_run logic start (struck steps ++ cond x (s ∷ []) []) ≡ cond x (machine_after logic (at_client steps) s) (at_client steps))
      b (λ _. run_by-append (machine_step logic) start (struck steps) (s ∷ [])) (λ _. ap (machine_run logic start) (append-nil (struck steps)))

  at_fair : (steps : List Step) → IsFairMachine logic (at_client steps)
  at_fair steps = run_fair logic law start (struck steps) (start_fair logic setup client.tenant)

  none_before : (steps : List Step) (s : Step) → may_ask (machine_of logic setup steps) (asker_of s) ≡ true → asker_of s ≡ Some client → has_pending client (at_client steps) ≡ false
  none_before steps s may is = not-true _ (ap (may_ask (machine_of logic setup steps)) (sym is) ∙ may)

  owed_more : (steps : List Step) (s : Step) → may_ask (machine_of logic setup steps) (asker_of s) ≡ true → Owed client steps (at_client steps) → Owed client (steps ++ s ∷ []) (at_client (steps ++ s ∷ []))
  owed_more steps s may old =
      either_way (concerns client.tenant s)
      (λ is.
      subst (Owed client (steps ++ s ∷ [])) (sym (at_more steps s true is))
      (owed_after logic law client steps (at_client steps) s (at_fair steps) old (none_before steps s may)))
      (λ is.
      subst (Owed client (steps ++ s ∷ [])) (sym (at_more steps s false is))
      (owed_still client steps (at_client steps) s (apart_asks_nothing client s is) old))

  owed_from : (before steps : List Step) → paced_from logic setup before steps ≡ true → Owed client before (at_client before) → Owed client (before ++ steps) (at_client (before ++ steps))
  owed_from before [] paced old = subst (λ xs. Owed client xs (at_client xs)) (sym (append-nil before)) old
  owed_from before (s ∷ steps) paced old =
      let parts = and_parts (may_ask (machine_of logic setup before) (asker_of s)) _ paced in
      subst (λ xs. Owed client xs (at_client xs)) (append_assoc before (s ∷ []) steps) (owed_from (before ++ s ∷ []) steps parts.1 (owed_more before s parts.0 old))

  start_owed : Owed client [] (at_client [])
  unfolding start_of
  start_owed = record {
    owed = [];
    short = omega arith;
    order = refl;
    weighs = λ f. omega (arith, start_balance setup client.tenant (weigh client f));
  }

  pub paced_owed : (journal : List Step) → is_paced logic setup journal ≡ true → Owed client journal (at_client journal)
  paced_owed journal paced = owed_from [] journal paced start_owed

-- ---- in the words of the law

-- a client's replies are all shown to its tenant
told_apart : (client : Client) (p : Party) → same_text (tenant_of p) client.tenant ≡ false → id_of client p ≡ []
told_apart client (party.Grain grain) apart = refl
told_apart client (party.Client caller id) apart = ap (λ b. cond b (id ∷ []) []) (clients_apart caller client apart)

pub told_shown : (client : Client) (replies : List Reply) → ids_told client (filter (is_to client.tenant) replies) ≡ ids_told client replies
told_shown client replies = flat_map-filter (λ r. id_of client r.recipient) (is_to client.tenant) replies (λ r. told_apart client r.recipient)

pub shown_replies : (tenant : List ℕ) (w : Whole) → (shown_to tenant w).replies ≡ filter (is_to tenant) w.replies
unfolding shown_to
shown_replies tenant w = refl

pub answered_in_order : AnsweredInOrder
answered_in_order logic law setup journal w client leads paced none =
    let m : Machine = shown_to client.tenant w in
    let last : Owed client journal m = subst (Owed client journal) (part_is_run logic setup journal w client.tenant leads) (paced_owed logic law setup client journal paced) in
    let settled : last.owed ≡ [] = no_number last.owed (sym (last.weighs (λ x. 1)) ∙ none_pending client (λ x. 1) m none) in
    sym (last.order
    ∙ ap (λ ids. ids_told client m.replies ++ ids) settled
    ∙ append-nil (ids_told client m.replies)
    ∙ ap (ids_told client) (shown_replies client.tenant w)
    ∙ told_shown client w.replies)
