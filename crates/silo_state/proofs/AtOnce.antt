-- A call to a grain that is idle, the begin of its turn and its end, as steps of the whole.
use Rattle.std.proofs.Common.{◌≡◌, ℕ, ◌+◌, ◌==◌, ◌<◌, Bool, true, false, ◌&&◌, List, [], ◌∷◌, ◌++◌, length, Option, Some, None, refl, ap, sym, ◌∙◌, subst, arith}
use Rattle.std.specs.Prelude.{nat_lt, Result, Ok, Err, IfOk, IfSome, if◌then◌else◌}
use Rattle.std.specs.Cmp.{nat_cmp_total}
use Rattle.std.specs.FinMap as map
use Rattle.std.specs.FinMap.{FinMap, nat_cmp-IsAntisymmetric}
use Rattle.std.proofs.lemmas.Bool.{false_from_ne_true}
use Rattle.std.proofs.lemmas.Bool.Decides.{Decides-eqb}
use Rattle.std.proofs.lemmas.List.{nil_from_length}
use Rattle.std.proofs.lemmas.Option.{none-some}
use Rattle.grain_id.specs.Names.{Client, Grain, text_cmp, grain_cmp}
use Rattle.grain_id.proofs.Order.{grain_cmp_total, grain_cmp_exact, text_cmp_total, text_cmp_exact}
use Rattle.finite_maps.proofs.Maps.{get-insert_same, get-none, insert-insert, taken_back}
use Rattle.finite_maps.proofs.Values.{values_pass}
use Rattle.request_codec.specs.Call as codec
use Rattle.request_codec.specs.Tree.{Tree}
use Rattle.silo_event.specs.declared.reply.Party.TheVariants as party
use Rattle.silo_event.specs.declared.step.Step.TheVariants.{Call, Begin, End}
use Rattle.activation_directory.specs.declared.activation.Activation.{Activation}
use Rattle.activation_directory.specs.declared.activation.Phase.{Phase}
use Rattle.activation_directory.specs.declared.activation.Phase.TheVariants.{Waiting, Loading, Ready}
use Rattle.grain_logic.specs.Logic.{Logic, Plan, Outgoing, asks_nothing, same}
use Rattle.grain_logic.specs.Finished.{planned_shown}
use Rattle.grain_logic.specs.declared.turn.OwnedPlan.{OwnedPlan}
use Rattle.silo_model.specs.Machine.{Account, Entry, Request, ready}
use Rattle.silo_model.specs.Calls.{told, last_number}
use Rattle.silo_model.specs.Effect.{change_at, drop, put}
use Rattle.silo_model.specs.Idle.{is_idle, is_ready, due_moment}
use Rattle.silo_model.specs.Turns.{reads, may_open, sent_by, with_sends, outcome_of, until_by, resting_by, closed_entry, stays_or_goes}
use Rattle.silo_model.specs.Whole.{Whole, whole_step}
use Rattle.silo_model.proofs.CallSteps.{next_request, call_again}
use Rattle.silo_model.proofs.EntrySteps.{begin_first}
use Rattle.silo_model.proofs.TurnSteps.{end_turn}
use Rattle.silo_state.specs.inside.Sends.{with_more}
use Rattle.silo_state.specs.Work.{first_number, first_waiting}
use Rattle.silo_state.specs.AtOnce.{Serves}
use Rattle.silo_state.specs.Shown.{phase_of, entry_of, entries_of}
use Rattle.tenant_accounts.specs.inside.Numbers.{Admits}
use Rattle.silo_state.specs.inside.AtOnce.{IsIdleAt, PlansAt, PlansIdle, put_state, renewed}
use Rattle.tenant_accounts.specs.inside.Deliveries.{changed_account}
use Rattle.silo_state.specs.inside.Held.{Held}
use Rattle.silo_state.specs.inside.Notes.{due_at}
use Rattle.silo_state.proofs.Shows.{entries-put}

-- ---- accounts: what is sent, and then one request more, comes to the same as the other way round

abbrev pub counted : Account → Account
counted a = record a { count = a.count + 1 }

module _ (accounts : FinMap text_cmp Account) (g : Grain) (a : Account) where
  abbrev pub sent : List ℕ → List Outgoing → FinMap text_cmp Account
  sent t outgoing = change_at accounts t (with_more (map.get accounts t) (sent_by g outgoing))

  abbrev called_then : FinMap text_cmp Account → List ℕ → Option Account → List Outgoing → FinMap text_cmp Account
  called_then after t found outgoing = change_at after t (with_sends g found outgoing)

  abbrev Counts : List ℕ → List Outgoing → Type 0
  Counts t outgoing =
      changed_account counted (sent t outgoing) t (map.get (sent t outgoing) t)
      ≡ called_then (map.insert accounts t (counted a)) t (map.get (map.insert accounts t (counted a)) t) outgoing

  counts_at : (t : List ℕ) (outgoing : List Outgoing) → map.get accounts t ≡ Some a → Counts t outgoing
  counts_at t [] known = ap (changed_account counted accounts t) known
  counts_at t (o ∷ outgoing) known =
      let more : Account = record a { sends = a.sends ++ sent_by g (o ∷ outgoing) } in
      ap (λ found. changed_account counted (change_at accounts t (with_more found (sent_by g (o ∷ outgoing)))) t (map.get (change_at accounts t (with_more found (sent_by g (o ∷ outgoing)))) t)) known
      ∙ ap (changed_account counted (map.insert accounts t more) t) (get-insert_same text_cmp_total text_cmp_exact accounts t more)
      ∙ insert-insert text_cmp_total text_cmp_exact accounts t more (counted more)
      ∙ sym (insert-insert text_cmp_total text_cmp_exact accounts t (counted a) (counted more))
      ∙ sym (ap (λ found. called_then (map.insert accounts t (counted a)) t found (o ∷ outgoing)) (get-insert_same text_cmp_total text_cmp_exact accounts t (counted a)))

  -- a number is left as before
  pub counts_on : (t : List ℕ) (outgoing : List Outgoing) → map.get accounts t ≡ Some a → a.count < last_number → IfSome (map.get (sent t outgoing) t) (λ x. x.count < last_number)
  counts_on t [] known less = subst (λ found. IfSome found (λ (x : Account). x.count < last_number)) (sym known) less
  counts_on t (o ∷ outgoing) known less =
      let more : Account = record a { sends = a.sends ++ sent_by g (o ∷ outgoing) } in
      let there : map.get (sent t (o ∷ outgoing)) t ≡ Some more =
      ap (λ found. map.get (change_at accounts t (with_more found (sent_by g (o ∷ outgoing)))) t) known
      ∙ get-insert_same text_cmp_total text_cmp_exact accounts t more in
      subst (λ found. IfSome found (λ (x : Account). x.count < last_number)) (sym there) less

-- ---- the three steps

below : (m n : ℕ) → m < n → (m == n) ≡ false
below m n less = false_from_ne_true _ (λ same. let is = (Decides-eqb m n).0 same in absurd (omega (arith, less, is)))

both_parts : (r w o : Bool) → r && w && o ≡ true → (w ≡ true) × (o ≡ true)
both_parts true true true is = (refl, refl)
both_parts true true false is = absurd cc
both_parts true false o is = absurd cc
both_parts false w o is = absurd cc

either : (b x y : Bool) → x ≡ true → y ≡ true → (if b then x else y) ≡ true
either true x y first second = first
either false x y first second = second

module _ (logic : Logic) (h : Held) (caller : Client) (id : ℕ) (g : Grain) (call : codec.Call) (n : ℕ) (admits : Admits h.whole.accounts caller.tenant n) (own : g.tenant ≡ caller.tenant)
    (made : OwnedPlan) (found : PlansIdle logic g (map.get h.whole.entries g) call made) where
  abbrev w : Whole
  w = h.whole

  abbrev a : Account
  a = admits.account

  abbrev e : Entry
  e = found.entry

  abbrev was : Tree
  was = found.plans.state

  abbrev idle : IsIdleAt e was
  idle = found.plans.at

  abbrev request : Request
  request = next_request a (party.Client caller id) call

  parts : ((length e.queue == 0) ≡ true) × ((map.len e.turns == 0) ≡ true)
  parts = both_parts _ _ _ idle.idle

  no_queue : e.queue ≡ []
  no_queue = nil_from_length e.queue ((Decides-eqb (length e.queue) 0).0 parts.0)

  no_turn : (k : ℕ) → map.get e.turns k ≡ None
  no_turn k = get-none e.turns k ((Decides-eqb (map.len e.turns) 0).0 parts.1)

  may : may_open logic g e request ≡ true
  may = either (reads logic g request) _ _ (values_pass nat_cmp_total (reads logic g) e.turns (λ k turn at. absurd (none-some turn (sym (no_turn k) ∙ at)))) parts.1

  -- with the request that waits, with its turn open, and once it is closed
  abbrev e1 : Entry
  e1 = record e { queue = e.queue ++ request ∷ []; last = w.clock }

  abbrev e2 : Entry
  e2 = record e1 { queue = []; turns = map.insert e.turns request.number request }

  abbrev w1 : Whole
  w1 = record w { accounts = map.insert w.accounts caller.tenant (counted a); entries = map.insert w.entries g e1 }

  abbrev w2 : Whole
  w2 = record w1 { entries = map.insert w1.entries g e2 }

  found1 : map.get w1.entries g ≡ Some e1
  found1 = get-insert_same grain_cmp_total grain_cmp_exact w.entries g e1

  calls : whole_step logic w (Call caller id g call) ≡ Some w1
  calls = call_again logic w caller id g call a admits.known own found.knows (below a.count last_number admits.next.left) e found.found_is (ap (λ (queue : List Request). nat_lt (length queue) a.limits.mailbox) no_queue ∙ admits.next.room)

  begins : whole_step logic w1 (Begin g) ≡ Some w2
  begins = begin_first logic w1 g e1 found1 was idle.version request [] idle.phase_is (ap (λ (queue : List Request). queue ++ request ∷ []) no_queue) may

  abbrev plan : Plan
  plan = planned_shown was made

  module _ (silent : plan.storage ≡ asks_nothing) (says : plan.keep ≡ same) where
    abbrev after : Entry
    after = record e { phase = ready plan.state idle.version; last = w.clock }

    closed_is : closed_entry w.clock e2 request plan.state idle.version plan.keep ≡ after
    closed_is = λ i. record {
      phase = ready plan.state idle.version;
      queue = sym no_queue i;
      turns = taken_back nat_cmp_total nat_cmp-IsAntisymmetric e.turns request.number request (no_turn request.number) i;
      last = w.clock;
      until = until_by w.clock (says i) e.until;
      resting = resting_by (says i) e.resting;
    }

    stays : stays_or_goes after ≡ put after
    stays = ap (λ b. if b && is_idle after then drop else put after) idle.stays

    entries_are : change_at w2.entries g (stays_or_goes (closed_entry w.clock e2 request plan.state idle.version plan.keep)) ≡ map.insert w.entries g after
    entries_are =
        ap (λ x. change_at w2.entries g (stays_or_goes x)) closed_is
        ∙ ap (change_at w2.entries g) stays
        ∙ insert-insert grain_cmp_total grain_cmp_exact w1.entries g e2 after
        ∙ insert-insert grain_cmp_total grain_cmp_exact w.entries g e1 after

    accounts_are : (accounts : FinMap text_cmp Account) → accounts ≡ changed_account counted (sent w.accounts g a g.tenant plan.sends) g.tenant (map.get (sent w.accounts g a g.tenant plan.sends) g.tenant)
        → accounts ≡ change_at w2.accounts g.tenant (with_sends g (map.get w2.accounts g.tenant) plan.sends)
    accounts_are accounts is =
        is
        ∙ counts_at w.accounts g a g.tenant plan.sends (ap (map.get w.accounts) own ∙ admits.known)
        ∙ ap (λ t. called_then w.accounts g a (map.insert w.accounts t (counted a)) g.tenant (map.get (map.insert w.accounts t (counted a)) g.tenant) plan.sends) own

    pub serves : (new : Held) (accounts : FinMap text_cmp Account)
        → accounts ≡ changed_account counted (sent w.accounts g a g.tenant plan.sends) g.tenant (map.get (sent w.accounts g a g.tenant plan.sends) g.tenant)
        → new ≡ record h {
          whole = record h.whole {
            accounts = accounts;
            entries = map.insert h.whole.entries g after;
            replies = h.whole.replies ++ told (party.Client caller id) (outcome_of plan.outcome);
          };
        }
        → Serves logic h (Call caller id g call) g n new
    serves new accounts kept is = record {
      called = record h { whole = w1 };
      begun = record h { whole = w2 };
      calls = (calls, refl);
      untold = refl;
      waits = ap first_waiting found1 ∙ ap (λ (queue : List Request). first_number (queue ++ request ∷ [])) no_queue ∙ ap Some (sym admits.next.numbered);
      begins = (begins, refl);
      ends = (
        ap (λ k. whole_step logic w2 (End g k)) admits.next.numbered
            ∙ end_turn logic w2 g request.number e2 (get-insert_same grain_cmp_total grain_cmp_exact w1.entries g e2) request
            (get-insert_same nat_cmp_total nat_cmp-IsAntisymmetric e.turns request.number request) was idle.version idle.phase_is plan (sym found.plans.plan_is) silent
            ∙ (λ i. Some (record w2 {
              accounts = sym (accounts_are accounts kept) i;
              entries = entries_are i;
              replies = w.replies ++ told (party.Client caller id) (outcome_of plan.outcome);
            }))
            ∙ ap (λ (x : Held). Some x.whole) (sym is),
        ap (λ (x : Held). x.failures) is,
      );
    }

-- ---- a phase with another state

pub put_shown : (p : Phase) (state : Option Tree) → phase_of (put_state p state) ≡ renewed (phase_of p) state
put_shown Waiting state = refl
put_shown Loading state = refl
put_shown (Ready old version) state = refl

pub put_none : (p : Phase) → p ≡ put_state p None
put_none Waiting = refl
put_none Loading = refl
put_none (Ready old version) = refl

-- an activation with another state, which was last used then
abbrev pub renewed_at : Activation → Option Tree → ℕ → Activation
renewed_at a state clock = record a { phase = put_state a.phase state; last = clock }

-- the entries with it
pub renewed_put : (m : FinMap grain_cmp Activation) (g : Grain) (a after : Activation) (state : Option Tree) (clock : ℕ) → after ≡ renewed_at a state clock
    → entries_of (map.insert m g after) ≡ map.insert (entries_of m) g (record (entry_of a) { phase = renewed (phase_of a.phase) state; last = clock })
renewed_put m g a after state clock is =
    entries-put m g after
    ∙ ap (λ (x : Activation). map.insert (entries_of m) g (entry_of x)) is
    ∙ ap (λ p. map.insert (entries_of m) g (record (entry_of a) { phase = p; last = clock })) (put_shown a.phase state)

-- what is planned at an activation is planned at its grain
pub plans_in : {E : Type 0} (logic : Logic) (g : Grain) (entry : Entry) (found : Option Entry) (message : codec.Call) → found ≡ Some entry → logic.knows g.kind ≡ true
    → (r : Result (Option OwnedPlan) E) → IfOk r (λ o. IfSome o (λ plan. PlansAt logic g entry message plan)) → IfOk r (λ o. IfSome o (λ plan. PlansIdle logic g found message plan))
plans_in logic g entry found message is knows (Err e) at = tt
plans_in logic g entry found message is knows (Ok None) at = tt
plans_in logic g entry found message is knows (Ok (Some p)) at = record { entry = entry; found_is = is; plans = at; knows = knows }
