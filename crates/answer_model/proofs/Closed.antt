-- The one open turn of an entry in which nothing waits is closed: the entry is idle or gone, and the turn's request is answered.
use Rattle.silo_model.proofs.Common.{if◌then◌else◌, ◌++◌, ◌∙◌, ◌∷◌, ◌≡◌, Abandon, Bool, Change, Effect, End, Entries, Entry, Err, Fault}
use Rattle.silo_model.proofs.Common.{Grain, IsIdle, Keep, List, Logic, NoMemory, None, Ok, Option, Plan, Request, Result, Row, RowFault}
use Rattle.silo_model.proofs.Common.{Some, StateChanged, Step, StorageCall, StorageFailed, Store, Tree, VersionsSpent, Whole, []}
use Rattle.silo_model.proofs.Common.{abandoned_entry, ap, asks_nothing, change_at, clears_row, closed_entry, cond, content_or}
use Rattle.silo_model.proofs.Common.{ends_activation, eq_by_cmp, eq_by_cmp-Decides, false, get-insert_same, grain_cmp, grain_cmp_exact}
use Rattle.silo_model.proofs.Common.{grain_cmp_total, is_some, none-some, outcome_of, plan_of, reads_row, ready, refl, reply_to}
use Rattle.silo_model.proofs.Common.{row_changed, row_written, same, same_Some, spent, stale, stored_by, subst, sym, true, unwrap_or}
use Rattle.silo_model.proofs.Common.{version_of, version_value, whole_run, whole_step, writes_row, ℕ}
use Rattle.std.specs.FinMap as map
use Rattle.finite_maps.proofs.Maps.{get-insert_other}
use Rattle.silo_model.specs.Stores.{row_cleared}
use Rattle.silo_model.proofs.Leaving.{stays_or_goes_by}
use Rattle.silo_model.proofs.TurnSteps.{abandon_turn, closed_at, end_clears, end_reads, end_turn, end_writes, left_at, seen_at}
use Rattle.silo_model.proofs.TurnSteps.{store_changed, store_failed, store_read, store_spent, store_stale}
use Rattle.answer_model.specs.Answering.{Closing, closing, ending, out_of_memory, storage_failed, well, whole_stepper}

-- nothing changed at other grains
abbrev pub Elsewhere : Entries → Entries → Grain → Type 0
Elsewhere old new g = (h : Grain) → eq_by_cmp grain_cmp h g ≡ false → map.get new h ≡ map.get old h

pub elsewhere-insert : (m : Entries) (g : Grain) (x : Entry) → Elsewhere m (map.insert m g x) g
elsewhere-insert m g x h apart = get-insert_other grain_cmp_total grain_cmp_exact m g h x apart

pub elsewhere-remove : (m : Entries) (g : Grain) → Elsewhere m (map.remove m g) g
elsewhere-remove m g h apart = map.get-remove grain_cmp_total m g h ∙ ap (λ b. cond b None (map.get m h)) apart

pub gone : (m : Entries) (g : Grain) → map.get (map.remove m g) g ≡ None
gone m g = map.get-remove grain_cmp_total m g g ∙ ap (λ b. cond b None (map.get m g)) ((eq_by_cmp-Decides grain_cmp_total grain_cmp_exact g g).1 refl)

-- the request is answered, and the entry is idle or gone
pub record Answers (w after : Whole) (g : Grain) (q : Request) : Type 0 where
  pub idle : (e : Entry) → map.get after.entries g ≡ Some e → IsIdle e
  pub elsewhere : Elsewhere w.entries after.entries g
  pub outcome : Result Tree Fault
  pub replies : after.replies ≡ w.replies ++ reply_to q.sender outcome

-- by the entry that is put, or none
answers_put : (w after : Whole) (g : Grain) (q : Request) (x : Entry) (outcome : Result Tree Fault) → after.entries ≡ map.insert w.entries g x → IsIdle x
    → after.replies ≡ w.replies ++ reply_to q.sender outcome → Answers w after g q
answers_put w after g q x outcome put idle replies = record {
  idle = λ e found. subst IsIdle (same_Some x e (sym (ap (λ m. map.get m g) put ∙ get-insert_same grain_cmp_total grain_cmp_exact w.entries g x) ∙ found)) idle;
  elsewhere = λ h apart. ap (λ m. map.get m h) put ∙ elsewhere-insert w.entries g x h apart;
  outcome = outcome;
  replies = replies;
}

pub answers_gone : (w after : Whole) (g : Grain) (q : Request) (outcome : Result Tree Fault) → after.entries ≡ map.remove w.entries g
    → after.replies ≡ w.replies ++ reply_to q.sender outcome → Answers w after g q
answers_gone w after g q outcome put replies = record {
  idle = λ e found. absurd (none-some e (sym (ap (λ m. map.get m g) put ∙ gone w.entries g) ∙ found));
  elsewhere = λ h apart. ap (λ m. map.get m h) put ∙ elsewhere-remove w.entries g h apart;
  outcome = outcome;
  replies = replies;
}

-- by the entry that is left: idle, it goes if it rests
answers_left : (w after : Whole) (g : Grain) (q : Request) (x : Entry) (outcome : Result Tree Fault) → after.entries ≡ left_at w g x → IsIdle x
    → after.replies ≡ w.replies ++ reply_to q.sender outcome → Answers w after g q
answers_left w after g q x outcome left idle replies =
    stays_or_goes_by x (λ c. after.entries ≡ change_at w.entries g c → Answers w after g q) (λ _ goes. answers_gone w after g q outcome goes replies)
    (λ _ stays. answers_put w after g q x outcome stays idle replies) left

-- the whole after a step that is done
pub run_done : (logic : Logic) (w after : Whole) (s : Step) (steps : List Step) → whole_step logic w s ≡ Some after → whole_run logic w (s ∷ steps) ≡ whole_run logic after steps
run_done logic w after s steps step = ap (λ o. whole_run logic (unwrap_or o w) steps) step

module _ (logic : Logic) (w : Whole) (g : Grain) (e : Entry) (found : map.get w.entries g ≡ Some e) (q : Request) (open_turn : map.get e.turns q.number ≡ Some q)
    (state : Tree) (version : Option ℕ) (is : e.phase ≡ ready state version) (queue : e.queue ≡ []) (none : map.len (map.remove e.turns q.number) ≡ 0) where
  abbrev plan : Plan
  plan = plan_of logic g state q

  closed_idle : (new : Tree) (at : Option ℕ) (said : Keep) → IsIdle (closed_entry w.clock e q new at said)
  closed_idle new at said = record { state = new; version = at; phase = refl; nothing_waits = queue; none_open = none }

  left_answers : (new : Tree) (at : Option ℕ) (said : Keep) (outcome : Result Tree Fault) (after : Whole) → after.entries ≡ closed_at w g e q new at said
      → after.replies ≡ w.replies ++ reply_to q.sender outcome → Answers w after g q
  left_answers new at said outcome after left replies = answers_left w after g q (closed_entry w.clock e q new at said) outcome left (closed_idle new at said) replies

  abbrev AnswersBy : List Step → Type 0
  AnswersBy steps = Answers w (whole_run logic w steps) g q

  by_done : (after : Whole) (s : Step) → whole_step logic w s ≡ Some after → Answers w after g q → AnswersBy (s ∷ [])
  by_done after s step answers = subst (λ x. Answers w x g q) (sym (run_done logic w after s [] step)) answers

  -- ---- by what the storage answers

  changed : (storage : StorageCall) (asks : plan.storage ≡ storage) (new : Tree) (r : Result (Option ℕ × Change Row) RowFault)
      → stored_by logic (seen_at w g) g e q state version storage ≡ Some (row_changed (seen_at w g) g e q state version new r)
      → AnswersBy (Store g q.number false ∷ [])
  changed storage asks new (Ok done) changes =
      by_done _ (Store g q.number false)
      (store_changed logic w g q.number e found q open_turn state version is plan refl storage asks new (Ok done) changes done.0 done.1 refl)
      (left_answers new done.0 same (Ok (version_value done.0)) _ refl refl)
  changed storage asks new (Err spent) changes =
      by_done _ (Store g q.number false)
      (store_spent logic w g q.number e found q open_turn state version is plan refl storage asks new (Err spent) changes refl)
      (left_answers state version same (Err (VersionsSpent g)) _ refl refl)
  changed storage asks new (Err (stale there)) changes =
      by_done _ (Store g q.number false)
      (store_stale logic w g q.number e found q open_turn state version is plan refl storage asks new (Err (stale there)) changes there refl)
      (answers_gone w _ g q (Err (StateChanged g)) (ap (λ k. change_at w.entries g (ends_activation e q k)) queue) refl)

  failed : (storage : StorageCall) (answer : Effect) → plan.storage ≡ storage → stored_by logic (seen_at w g) g e q state version storage ≡ Some answer
      → AnswersBy (Store g q.number true ∷ [])
  failed storage answer asks h =
      by_done _ (Store g q.number true)
      (store_failed logic w g q.number e found q open_turn state version is plan refl storage answer asks h)
      (left_answers state version same (Err StorageFailed) _ refl refl)

  -- ---- by the plan, or else by the storage

  abbrev Ends : Bool → Type 0
  Ends b = AnswersBy (ending (whole_stepper logic) w g q.number b)

  not_ended : (b : Bool) → whole_step logic w (End g q.number) ≡ None → AnswersBy (Store g q.number b ∷ []) → Ends b
  not_ended b step answers = subst AnswersBy (sym (ap (λ o. if is_some o then End g q.number ∷ [] else Store g q.number b ∷ []) step)) answers

  ended_by : (b : Bool) (storage : StorageCall) → plan.storage ≡ storage → Ends b
  ended_by b asks_nothing asks =
      let ended = end_turn logic w g q.number e found q open_turn state version is plan refl asks in
      subst AnswersBy (sym (ap (λ o. if is_some o then End g q.number ∷ [] else Store g q.number b ∷ []) ended))
      (by_done _ (End g q.number) ended (left_answers plan.state version plan.keep (outcome_of plan.outcome) _ refl refl))
  ended_by false reads_row asks =
      not_ended false (end_reads logic w g q.number e found q open_turn state version is plan refl asks)
      (by_done _ (Store g q.number false) (store_read logic w g q.number e found q open_turn state version is plan refl asks)
      (left_answers (content_or (logic.empty g.kind) (map.get w.rows g)) (version_of (map.get w.rows g)) same (Ok (version_value (version_of (map.get w.rows g)))) _ refl refl))
  ended_by true reads_row asks =
      not_ended true (end_reads logic w g q.number e found q open_turn state version is plan refl asks) (failed reads_row _ asks refl)
  ended_by false writes_row asks =
      not_ended false (end_writes logic w g q.number e found q open_turn state version is plan refl asks)
      (changed writes_row asks state (row_written version (map.get w.rows g) state) refl)
  ended_by true writes_row asks =
      not_ended true (end_writes logic w g q.number e found q open_turn state version is plan refl asks) (failed writes_row _ asks refl)
  ended_by false clears_row asks =
      not_ended false (end_clears logic w g q.number e found q open_turn state version is plan refl asks)
      (changed clears_row asks (logic.empty g.kind) (row_cleared version (map.get w.rows g)) refl)
  ended_by true clears_row asks =
      not_ended true (end_clears logic w g q.number e found q open_turn state version is plan refl asks) (failed clears_row _ asks refl)

  pub closes : (how : Closing) → AnswersBy (closing (whole_stepper logic) w g q.number how)
  closes well = ended_by false plan.storage refl
  closes storage_failed = ended_by true plan.storage refl
  closes out_of_memory =
      by_done _ (Abandon g q.number) (abandon_turn logic w g q.number e found q open_turn)
      (answers_left w _ g q (abandoned_entry w.clock e q) (Err NoMemory) refl
      (record { state = state; version = version; phase = is; nothing_waits = queue; none_open = none }) refl)
