-- Whatever is asked where all is idle, all is idle again, and who asked was answered.
use Rattle.silo_model.proofs.Common.{◌++◌, ◌∙◌, ◌∷◌, ◌≡◌, ◌⊎◌, Account, Bool, Call, Change, Client, Context, Deliver, Effect, Entry, Err}
use Rattle.silo_model.proofs.Common.{Fault, Grain, List, Logic, None, Ok, Option, Party, Poke, Refuse, Reply, Request, Result, Row}
use Rattle.silo_model.proofs.Common.{RowFault, Send, Setup, Some, Status, Step, Sweep, Tick, Tree, Whole, [], ap, append-nil, append_assoc}
use Rattle.silo_model.proofs.Common.{asking_of, change_at, cond, context_at, effect_of, eq-eqb, eq_by_cmp, eq_by_cmp-Decides, eqb-true}
use Rattle.silo_model.proofs.Common.{false, false_from_ne_true, gate, get-insert_same, grain_cmp, grain_cmp_exact, grain_cmp_total, inl}
use Rattle.silo_model.proofs.Common.{inr, keep, length, nat_cmp, none-some, owner_of, poke_settled, poked, refl, reply_to, row_poked}
use Rattle.silo_model.proofs.Common.{row_told, same_Some, sends_of, shown_to, spent, spread, stale, subst, suc, sym, told, true, unwrap_or}
use Rattle.silo_model.proofs.Common.{whole_run, whole_step, with_request, zero, ℕ}
use Rattle.std.specs.Prelude.{◌-◌}
use Rattle.std.specs.FinMap as map
use Rattle.silo_event.specs.declared.reply.Party.TheVariants as party
use Rattle.silo_model.proofs.EffectKinds.{asks, role_of}
use Rattle.silo_model.proofs.Isolation.{did, place_in, shared_by}
use Rattle.silo_model.proofs.Runs.{whole_after, whole_run-append}
use Rattle.silo_model.proofs.SharedSteps.{shared_leaves}
use Rattle.answer_model.specs.Answering.{Asked, Luck, Stepper, answered, bringing, called_grain, delivered_bytes, deliveries, deliveries_of}
use Rattle.answer_model.specs.Answering.{delivering, first_luck, given_up_if, is_accepted, is_asked, later_luck, oldest_bytes, serving}
use Rattle.answer_model.specs.Answering.{serving_if, taken, taken_by, too_many_wait, whole_stepper}
use Rattle.answer_model.specs.Idle.{AllIdle, AllToGrains, AnsweredAtOnce, TellsAsker}
use Rattle.answer_model.proofs.Apart.{asking_taken, owner_failed}
use Rattle.silo_model.proofs.Tests.{either_way, on_found}
use Rattle.answer_model.proofs.Brought.{Brings, brings, is_told, more_than_none, waits}
use Rattle.answer_model.proofs.Closed.{Answers, elsewhere-insert, run_done}
use Rattle.answer_model.proofs.Raised.{IsAlone, served}
use Rattle.answer_model.proofs.Reached.{IsReached, run_reached}
use Rattle.answer_model.proofs.Served.{is_delivered, source_own, target_is}
pub use Rattle.answer_model.proofs.Apart.{asked_done}

-- what a party is told: something, and a grain perhaps nothing
abbrev pub IsAbout : Party → List Reply → Type 0
IsAbout p added = (outcome : Result Tree Fault) × ((added ≡ told p outcome) ⊎ (added ≡ reply_to p outcome))

-- All is idle again, and the party was told.
pub record Settles (w after : Whole) (p : Party) : Type 0 where
  pub idle : AllIdle after.entries
  pub added : List Reply
  pub replies : after.replies ≡ w.replies ++ added
  pub about : IsAbout p added

-- ---- a request that waits where all rested

module _ (w after : Whole) (g : Grain) (q : Request) (idle : AllIdle w.entries)
    (entries : after.entries ≡ map.insert w.entries g (with_request w.clock q (map.get w.entries g))) where
  alone_by : (found : Option Entry) → map.get w.entries g ≡ found → map.get after.entries g ≡ Some (with_request w.clock q found) → IsAlone after g q
  alone_by None was is = record { entry = with_request w.clock q None; found = is; queue = refl; none_open = map.len-empty nat_cmp Request; not_loading = λ is. cc is }
  alone_by (Some e) was is = record {
    entry = with_request w.clock q (Some e);
    found = is;
    queue = ap (λ queue. queue ++ q ∷ []) (idle g e was).nothing_waits;
    none_open = (idle g e was).none_open;
    not_loading = λ is. cc (is, (idle g e was).phase);
  }

  pub alone : IsAlone after g q
  alone = alone_by (map.get w.entries g) refl (ap (λ m. map.get m g) entries ∙ get-insert_same grain_cmp_total grain_cmp_exact w.entries g _)

  idle_again : (last : Whole) → Answers after last g q → AllIdle last.entries
  idle_again last answers h e found =
      either_way (eq_by_cmp grain_cmp h g)
      (λ tied. answers.idle e (ap (map.get last.entries) (sym ((eq_by_cmp-Decides grain_cmp_total grain_cmp_exact h g).0 tied)) ∙ found))
      (λ apart. idle h e (sym (answers.elsewhere h apart ∙ ap (λ m. map.get m h) entries ∙ elsewhere-insert w.entries g _ h apart) ∙ found))

-- ---- a step that may bring a request

module _ (logic : Logic) (w : Whole) (idle : AllIdle w.entries) (s : Step) (luck : Luck) (after : Whole) (step : whole_step logic w s ≡ Some after) where
  abbrev of_whole : Stepper Whole
  of_whole = whole_stepper logic

  run_is : (grain : Option Grain) → whole_run logic w (bringing of_whole w s grain luck) ≡ whole_run logic after (serving_if of_whole w after grain luck)
  run_is grain =
      run_done logic w after s (serving_if of_whole w (whole_after logic w s) grain luck) step
      ∙ ap (λ o. whole_run logic after (serving_if of_whole w (unwrap_or o w) grain luck)) step

  pub not_served : (grain : Option Grain) (p : Party) (outcome : Result Tree Fault) → after.replies ≡ w.replies ++ told p outcome → serving_if of_whole w after grain luck ≡ []
  not_served None p outcome replies = refl
  not_served (Some g) p outcome replies =
      ap (λ b. cond b (serving of_whole after g luck) []) (false_from_ne_true (is_accepted of_whole w after) (λ accepted.
      more_than_none w.replies (record { recipient = p; outcome = outcome }) (sym (ap length replies) ∙ eqb-true (length after.replies) (length w.replies) accepted)))

  pub is_served : (g : Grain) → after.replies ≡ w.replies → serving_if of_whole w after (Some g) luck ≡ serving of_whole after g luck
  is_served g replies = ap (λ b. cond b (serving of_whole after g luck) []) (eq-eqb (length after.replies) (length w.replies) (ap length replies))

  settles_by : (owner : List ℕ) (p : Party) (grain : Option Grain) → Brings w after owner p grain
      → Settles w (whole_run logic after (serving_if of_whole w after grain luck)) p
  settles_by owner p grain (is_told _ outcome entries replies) =
      subst (λ x. Settles w x p) (sym (ap (whole_run logic after) (not_served grain p outcome replies)))
      (record { idle = subst AllIdle (sym entries) idle; added = told p outcome; replies = replies; about = (outcome, inl refl) })
  settles_by owner p grain (waits g q own sender entries replies) =
      let answers = served logic after g q luck (alone w after g q idle entries) in
      subst (λ x. Settles w x p) (sym (ap (whole_run logic after) (is_served g replies)))
      (record {
        idle = idle_again w after g q idle entries (whole_run logic after (serving of_whole after g luck)) answers;
        added = reply_to q.sender answers.outcome;
        replies = answers.replies ∙ ap (λ rs. rs ++ reply_to q.sender answers.outcome) replies;
        about = (answers.outcome, inr (ap (λ x. reply_to x answers.outcome) sender));
      })

  settles : (owner : List ℕ) (p : Party) (grain : Option Grain) → Brings w after owner p grain → Settles w (whole_run logic w (bringing of_whole w s grain luck)) p
  settles owner p grain brought = subst (λ x. Settles w x p) (sym (run_is grain)) (settles_by owner p grain brought)

  -- by what the step is to a party
  settles_asking : (owner : List ℕ) (p : Party) (grain : Option Grain) → owner_of s ≡ Some owner → role_of s ≡ asks p → place_in w owner s ≡ grain
      → Settles w (whole_run logic w (bringing of_whole w s grain luck)) p
  settles_asking owner p grain is role place = settles owner p grain (subst (Brings w after owner p) place (brings logic w after s owner p is role step))

-- ---- a poke tells its client, and touches no entry

abbrev TellsOnly : Party → Effect → Type 0
TellsOnly p e = (outcome : Result Tree Fault) × (e.entry ≡ keep) × (e.replies ≡ told p outcome)

row_told_tells : (p : Party) (g : Grain) (r : Result (Option ℕ × Change Row) RowFault) → TellsOnly p (row_told p g r)
row_told_tells p g (Ok done) = (_, refl, refl)
row_told_tells p g (Err (stale found)) = (_, refl, refl)
row_told_tells p g (Err spent) = (_, refl, refl)

poke_tells : (s : Context) (p : Party) (g : Grain) (state : Tree) (failed : Bool) (r : Result Account Fault) → TellsOnly p (poke_settled s p g state failed r)
poke_tells s p g state true (Ok a) = (_, refl, refl)
poke_tells s p g state false (Ok a) = row_told_tells p g (row_poked s.row state)
poke_tells s p g state failed (Err why) = (_, refl, refl)

poked_tells : (logic : Logic) (s : Context) (p : Party) (g : Grain) (state : Tree) (failed : Bool) → TellsOnly p (poked logic s p g state failed)
unfolding poked
poked_tells logic s p g state failed = poke_tells s p g state failed (gate logic s s.account g)

poke_brings : (logic : Logic) (w after : Whole) (failed : Bool) (caller : Client) (id : ℕ) (g : Grain) (state : Tree)
    → whole_step logic w (Poke failed caller id g state) ≡ Some after → Brings w after caller.tenant (party.Client caller id) None
unfolding effect_of spread
poke_brings logic w after failed caller id g state step =
    let d = did logic w after (Poke failed caller id g state) caller.tenant refl step in
    let seen = context_at (shown_to caller.tenant w) (Some g) in
    let what : poked logic seen (party.Client caller id) g state failed ≡ d.what = same_Some _ d.what d.does in
    let tells = poked_tells logic seen (party.Client caller id) g state failed in
    is_told None tells.0
    (sym (ap (λ (x : Whole). x.entries) d.leaves) ∙ ap (λ (e : Effect). change_at w.entries g e.entry) (sym what) ∙ ap (change_at w.entries g) tells.1)
    (sym (ap (λ (x : Whole). x.replies) d.leaves) ∙ ap (λ (e : Effect). w.replies ++ e.replies) (sym what) ∙ ap (λ rs. w.replies ++ rs) tells.2)

-- ---- what a client asks

called_taken : (b : Bool) (s : Step) → called_grain (taken_by b s) ≡ called_grain s
called_taken false s = refl
called_taken true Sweep = refl
called_taken true _ = refl

module _ (logic : Logic) (w : Whole) (idle : AllIdle w.entries) (luck : Luck) where
  abbrev Settling : Step → Option Grain → Party → Type 0
  Settling s grain p = Settles w (whole_run logic w (bringing (whole_stepper logic) w s grain luck)) p

  if_done : (s : Step) (grain : Option Grain) (p : Party) → (whole_step logic w s ≡ None → ⊥) → ((after : Whole) → whole_step logic w s ≡ Some after → Settling s grain p)
      → Settling s grain p
  if_done s grain p done settling = on_found (λ _. Settling s grain p) (whole_step logic w s) (λ e. absurd (done e)) settling

  -- a client's step, by what it brings
  client_settles : (s : Step) (caller : Client) (id : ℕ) (grain : Option Grain) (asking : Client × ℕ) → asking_of s ≡ Some (caller, id)
      → ((after : Whole) → whole_step logic w s ≡ Some after → Brings w after caller.tenant (party.Client caller id) grain)
      → Some (caller, id) ≡ Some asking → Settling s grain (party.Client asking.0 asking.1)
  client_settles s caller id grain asking is brought same =
      subst (λ (a : Client × ℕ). Settling s grain (party.Client a.0 a.1)) (same_Some (caller, id) asking same)
      (if_done s grain (party.Client caller id) (asked_done logic w false s (caller, id) is)
      (λ after step. settles logic w idle s luck after step caller.tenant (party.Client caller id) grain (brought after step)))

  asks_settle : (s : Step) (asking : Client × ℕ) → asking_of s ≡ Some asking → Settling s (called_grain s) (party.Client asking.0 asking.1)
  asks_settle (Refuse caller id code) asking =
      let s : Step = Refuse caller id code in
      client_settles s caller id None asking refl (λ after. brings logic w after s caller.tenant (party.Client caller id) refl refl)
  asks_settle (Call caller id g message) asking =
      let s : Step = Call caller id g message in
      client_settles s caller id (Some g) asking refl (λ after. brings logic w after s caller.tenant (party.Client caller id) refl refl)
  asks_settle (Poke failed caller id g state) asking =
      client_settles (Poke failed caller id g state) caller id None asking refl (λ after. poke_brings logic w after failed caller id g state)
  asks_settle (Status caller id) asking =
      let s : Step = Status caller id in
      client_settles s caller id None asking refl (λ after. brings logic w after s caller.tenant (party.Client caller id) refl refl)
  asks_settle _ asking = λ is. absurd (none-some asking is)

  pub asked_settles : (s : Step) (asking : Client × ℕ) → asking_of s ≡ Some asking
      → Settling (taken_by luck.asking_failed s) (called_grain s) (party.Client asking.0 asking.1)
  asked_settles s asking is =
      subst (λ grain. Settling (taken_by luck.asking_failed s) grain (party.Client asking.0 asking.1)) (called_taken luck.asking_failed s)
      (asks_settle (taken_by luck.asking_failed s) asking (asking_taken luck.asking_failed s ∙ is))

-- ---- deliveries

-- All is idle again, and only grains were told anything.
pub record Goes (w after : Whole) : Type 0 where
  pub idle : AllIdle after.entries
  pub others : List Reply
  pub replies : after.replies ≡ w.replies ++ others
  pub to_grains : AllToGrains others

AllToGrains-append : (rs others : List Reply) → AllToGrains rs → AllToGrains others → AllToGrains (rs ++ others)
AllToGrains-append [] others all more = more
AllToGrains-append (r ∷ rs) others all more = (all.0, AllToGrains-append rs others all.1 more)

grains_alone : (g : Grain) (added : List Reply) → IsAbout (party.Grain g) added → AllToGrains added
grains_alone g added (outcome, inl is) = subst AllToGrains (sym is) (tt, tt)
grains_alone g added (outcome, inr is) = subst AllToGrains (sym is) tt

module _ (logic : Logic) (setup : Setup) (tenant : List ℕ) where
  pub delivering_goes : (w : Whole) (sends : List Send) (luck : Luck) → IsReached logic setup w → AllIdle w.entries → sends_of (map.get w.accounts tenant) ≡ sends
      → Goes w (whole_run logic w (delivering (whole_stepper logic) w sends luck))
  delivering_goes w [] luck reached idle is = record { idle = idle; others = []; replies = sym (append-nil w.replies); to_grains = tt }
  delivering_goes w (oldest ∷ others) luck reached idle is =
      let s = Deliver oldest.source in
      let own = source_own logic setup tenant oldest others w reached is in
      let how = given_up_if (too_many_wait (oldest ∷ others)) luck in
      let settled = if_done logic w idle how s (Some oldest.message.target) (party.Grain oldest.source) (is_delivered logic setup tenant oldest others w own is)
      (λ after step. settles_asking logic w idle s how after step tenant (party.Grain oldest.source) (Some oldest.message.target) (ap Some own) refl (target_is logic setup tenant oldest others w is)) in
      record { idle = settled.idle; others = settled.added; replies = settled.replies; to_grains = grains_alone oldest.source settled.added settled.about }

  deliveries_go : (n room : ℕ) (w : Whole) (lucks : List Luck) → IsReached logic setup w → AllIdle w.entries
      → Goes w (whole_run logic w (deliveries (whole_stepper logic) n room w tenant lucks))
  deliveries_go zero room w lucks reached idle = record { idle = idle; others = []; replies = sym (append-nil w.replies); to_grains = tt }
  deliveries_go (suc n) zero w lucks reached idle = record { idle = idle; others = []; replies = sym (append-nil w.replies); to_grains = tt }
  deliveries_go (suc n) (suc room) w lucks reached idle =
      let left = suc room - oldest_bytes (sends_of (map.get w.accounts tenant)) in
      let steps = delivering (whole_stepper logic) w (sends_of (map.get w.accounts tenant)) (first_luck lucks) in
      let first = delivering_goes w (sends_of (map.get w.accounts tenant)) (first_luck lucks) reached idle refl in
      let next = whole_run logic w steps in
      let rest = deliveries_go n left next (later_luck lucks) (run_reached logic setup steps w reached) first.idle in
      subst (Goes w) (sym (whole_run-append logic w steps (deliveries (whole_stepper logic) n left next tenant (later_luck lucks))))
      (record {
        idle = rest.idle;
        others = first.others ++ rest.others;
        replies = rest.replies ∙ ap (λ rs. rs ++ rest.others) first.replies ∙ append_assoc w.replies first.others rest.others;
        to_grains = AllToGrains-append first.others rest.others first.to_grains rest.to_grains;
      })

-- ---- the law

owner_by_asking : (s : Step) (asking : Client × ℕ) → asking_of s ≡ Some asking → owner_of s ≡ Some asking.0.tenant
owner_by_asking (Refuse caller id code) asking is = ap (λ (a : Client × ℕ). Some a.0.tenant) (same_Some (caller, id) asking is)
owner_by_asking (Call caller id g message) asking is = ap (λ (a : Client × ℕ). Some a.0.tenant) (same_Some (caller, id) asking is)
owner_by_asking (Poke failed caller id g state) asking is = ap (λ (a : Client × ℕ). Some a.0.tenant) (same_Some (caller, id) asking is)
owner_by_asking (Status caller id) asking is = ap (λ (a : Client × ℕ). Some a.0.tenant) (same_Some (caller, id) asking is)
owner_by_asking _ asking is = absurd (none-some asking is)

client_told : (caller : Client) (id : ℕ) (added : List Reply) → IsAbout (party.Client caller id) added → (outcome : Result Tree Fault) × (added ≡ told (party.Client caller id) outcome)
client_told caller id added (outcome, inl is) = (outcome, is)
client_told caller id added (outcome, inr is) = (outcome, is)

module _ (logic : Logic) (setup : Setup) (n : ℕ) (w : Whole) (reached : IsReached logic setup w) (idle : AllIdle w.entries) where
  abbrev AtOnce : Asked → Option (Client × ℕ) → Type 0
  AtOnce asked asking = AllIdle (answered (whole_stepper logic) n w asked).entries × TellsAsker asking w.replies (answered (whole_stepper logic) n w asked).replies

  clients_asked : (asked : Asked) (asking : Client × ℕ) → asking_of asked.step ≡ Some asking → AtOnce asked (Some asking)
  clients_asked asked asking is =
      let luck = first_luck asked.lucks in
      let steps = bringing (whole_stepper logic) w (taken asked) (called_grain asked.step) luck in
      let first = asked_settles logic w idle luck asked.step asking is in
      let next = whole_run logic w steps in
      let rest = deliveries_go logic setup asking.0.tenant n delivered_bytes next (later_luck asked.lucks) (run_reached logic setup steps w reached) first.idle in
      let last : answered (whole_stepper logic) n w asked ≡ whole_run logic next (deliveries (whole_stepper logic) n delivered_bytes next asking.0.tenant (later_luck asked.lucks))
      = whole_run-append logic w steps (deliveries_of (whole_stepper logic) n next (owner_of asked.step) (later_luck asked.lucks))
      ∙ ap (λ o. whole_run logic next (deliveries_of (whole_stepper logic) n next o (later_luck asked.lucks))) (owner_by_asking asked.step asking is) in
      let what = client_told asking.0 asking.1 first.added first.about in (
        subst (λ (x : Whole). AllIdle x.entries) (sym last) rest.idle,
        record {
          outcome = what.0;
          others = rest.others;
          replies =
              ap (λ (x : Whole). x.replies) last ∙ rest.replies ∙ ap (λ rs. rs ++ rest.others) (first.replies ∙ ap (λ rs. w.replies ++ rs) what.1);
          to_grains = rest.to_grains;
        },
      )

  -- what nobody asks
  nobodys : (s : Step) → owner_of s ≡ None → AllIdle (whole_run logic w (s ∷ [])).entries × ((whole_run logic w (s ∷ [])).replies ≡ w.replies)
  nobodys s is =
      on_found (λ r. AllIdle (unwrap_or r w).entries × ((unwrap_or r w).replies ≡ w.replies)) (whole_step logic w s) (λ _. (idle, refl))
      (λ after e.
      let leaves = shared_leaves w after s (sym (shared_by logic w s is) ∙ e) in
      ((λ g x found. idle g x (leaves.entries g x found)), leaves.replies))

  by_flag : (b : Bool) (s : Step) → owner_of s ≡ None → AllIdle (whole_run logic w (taken_by b s ∷ [])).entries × ((whole_run logic w (taken_by b s ∷ [])).replies ≡ w.replies)
  by_flag b s is = nobodys (taken_by b s) (owner_failed b s ∙ is)

  at_once : (s : Step) (lucks : List Luck) (asking : Option (Client × ℕ)) → asking_of s ≡ asking → is_asked s ≡ true → AtOnce (record { step = s; lucks = lucks }) asking
  at_once s lucks (Some asking) is asked = clients_asked (record { step = s; lucks = lucks }) asking is
  at_once (Tick now) lucks None is asked = by_flag (first_luck lucks).asking_failed (Tick now) refl
  at_once Sweep lucks None is asked = by_flag (first_luck lucks).asking_failed Sweep refl
  at_once _ lucks None is asked = absurd (let e = is in let a = asked in cc)

pub answered_at_once : AnsweredAtOnce
answered_at_once logic setup journal w n asked leads idle is = at_once logic setup n w (journal, leads) idle asked.step asked.lucks (asking_of asked.step) refl is
