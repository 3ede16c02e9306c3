-- The one request that waits at a grain is served: its grain is brought up, and its turn is opened and closed.
use Rattle.silo_model.proofs.Common.{if◌then◌else◌, ◌++◌, ◌+◌, ◌∙◌, ◌∷◌, ◌≡◌, ◌⊎◌, Activate, Begin, Bool, Entry, Err, Grain, List, Load}
use Rattle.silo_model.proofs.Common.{Logic, None, Option, Phase, Request, Some, Step, StorageFailed, Tree, Whole, [], activated, ap}
use Rattle.silo_model.proofs.Common.{append-nil, content_or, false, flat_map, get-insert_same, get-none, grain_cmp_exact, grain_cmp_total}
use Rattle.silo_model.proofs.Common.{inl, inr, is_some, loading, nat_cmp-IsAntisymmetric, nat_cmp_total, ready, refl, reply_to, subst, sym}
use Rattle.silo_model.proofs.Common.{true, unwrap_or, version_of, waiting, whole_run, whole_step, ℕ}
use Rattle.std.specs.FinMap as map
use Rattle.finite_maps.proofs.Totals.{total-len}
use Rattle.silo_model.proofs.EntrySteps.{activate_found, activate_waiting, begin_first, load_fails, load_loading}
use Rattle.silo_model.proofs.Fair.{may_open_alone, none_left, one_more}
use Rattle.silo_model.proofs.Runs.{whole_after, whole_run-append}
use Rattle.answer_model.specs.Answering.{Luck, closing, raising, serving, turn_of, turn_of_first, turning, whole_stepper}
use Rattle.answer_model.proofs.Closed.{Answers, Elsewhere, answers_gone, closes, elsewhere-insert, gone, run_done}

-- The request alone waits at the grain, no turn is open, and the entry doesn't load.
pub record IsAlone (w : Whole) (g : Grain) (q : Request) : Type 0 where
  pub entry : Entry
  pub found : map.get w.entries g ≡ Some entry
  pub queue : entry.queue ≡ q ∷ []
  pub none_open : map.len entry.turns ≡ 0
  pub not_loading : entry.phase ≡ loading → ⊥

-- So it is, nothing else changed, and the grain is ready.
pub record IsUp (w after : Whole) (g : Grain) (q : Request) : Type 0 where
  pub alone : IsAlone after g q
  pub state : Tree
  pub version : Option ℕ
  pub phase : alone.entry.phase ≡ ready state version
  pub elsewhere : Elsewhere w.entries after.entries g
  pub replies : after.replies ≡ w.replies

-- It is ready; or it couldn't be loaded, its request was told so, and there is no entry.
abbrev pub Raises : Whole → Whole → Grain → Request → Type 0
Raises w after g q = IsUp w after g q ⊎ (Answers w after g q × (map.get after.entries g ≡ None))

-- after a change at the grain that tells nobody anything
module _ (w next after : Whole) (g : Grain) (q : Request) (elsewhere : Elsewhere w.entries next.entries g) (replies : next.replies ≡ w.replies) where
  answers_later : Answers next after g q → Answers w after g q
  answers_later a = record {
    idle = a.idle;
    elsewhere = λ h apart. a.elsewhere h apart ∙ elsewhere h apart;
    outcome = a.outcome;
    replies = a.replies ∙ ap (λ rs. rs ++ reply_to q.sender a.outcome) replies;
  }

  raises_later : Raises next after g q → Raises w after g q
  raises_later (inl up) = inl (record {
    alone = up.alone;
    state = up.state;
    version = up.version;
    phase = up.phase;
    elsewhere = λ h apart. up.elsewhere h apart ∙ elsewhere h apart;
    replies = up.replies ∙ replies;
  })
  raises_later (inr down) = inr (answers_later down.0, down.1)

module _ (logic : Logic) (w : Whole) (g : Grain) (q : Request) where
  -- ---- an entry that loads

  loads : (e : Entry) → map.get w.entries g ≡ Some e → e.queue ≡ q ∷ [] → map.len e.turns ≡ 0 → e.phase ≡ loading → (failed : Bool)
      → Raises w (whole_run logic w (Load g failed ∷ [])) g q
  loads e found queue none is false =
      let state = content_or (logic.empty g.kind) (map.get w.rows g) in
      let version = version_of (map.get w.rows g) in
      let new : Entry = record e { phase = ready state version; until = 0; resting = false } in
      let after : Whole = record w { entries = map.insert w.entries g new } in
      subst (λ x. Raises w x g q) (sym (run_done logic w after (Load g false) [] (load_loading logic w g e found is)))
      (inl (record {
        alone = record { entry = new; found = get-insert_same grain_cmp_total grain_cmp_exact w.entries g new; queue = queue; none_open = none; not_loading = λ is. cc is };
        state = state;
        version = version;
        phase = refl;
        elsewhere = elsewhere-insert w.entries g new;
        replies = refl;
      }))
  loads e found queue none is true =
      subst (λ x. Raises w x g q) (sym (run_done logic w _ (Load g true) [] (load_fails logic w g e found is)))
      (inr (
        answers_gone w _ g q (Err StorageFailed) refl
            (ap (λ qs. w.replies ++ flat_map (λ x. reply_to x.sender (Err StorageFailed)) qs) queue ∙ ap (λ rs. w.replies ++ rs) (append-nil (reply_to q.sender (Err StorageFailed)))),
        gone w.entries g,
      ))

module _ (logic : Logic) (w : Whole) (g : Grain) (q : Request) (alone : IsAlone w g q) where
  -- ---- the grain is brought up

  pub not_activated : (p : Phase) → alone.entry.phase ≡ p → activated alone.entry p ≡ None → whole_step logic w (Activate g) ≡ None
  not_activated p is none = activate_found logic w g alone.entry alone.found None (ap (activated alone.entry) is ∙ none)

  abbrev Raising : Bool → Type 0
  Raising failed = Raises w (whole_run logic w (raising (whole_stepper logic) w g failed)) g q

  abbrev raising_if : Bool → Option Whole → List Step
  raising_if failed o = if is_some o then Activate g ∷ Load g failed ∷ [] else []

  pub raises_by : (failed : Bool) (p : Phase) → alone.entry.phase ≡ p → Raising failed
  raises_by failed waiting is =
      let new : Entry = record alone.entry { phase = loading } in
      let next : Whole = record w { entries = map.insert w.entries g new } in
      let activates = activate_waiting logic w g alone.entry alone.found is in
      subst (λ x. Raises w x g q)
      (sym (ap (λ o. whole_run logic w (raising_if failed o)) activates ∙ run_done logic w next (Activate g) (Load g failed ∷ []) activates))
      (raises_later w next (whole_run logic next (Load g failed ∷ [])) g q (elsewhere-insert w.entries g new) refl
      (loads logic next g q new (get-insert_same grain_cmp_total grain_cmp_exact w.entries g new) alone.queue alone.none_open refl failed))
  raises_by failed loading is = absurd (alone.not_loading is)
  raises_by failed (ready state version) is =
      subst (λ x. Raises w x g q) (sym (ap (λ o. whole_run logic w (raising_if failed o)) (not_activated (ready state version) is refl)))
      (inl (record { alone = alone; state = state; version = version; phase = is; elsewhere = λ h apart. refl; replies = refl }))

  -- ---- its turn

  module _ (state : Tree) (version : Option ℕ) (is : alone.entry.phase ≡ ready state version) where
    abbrev pub begun_entry : Entry
    begun_entry = record alone.entry { queue = []; turns = map.insert alone.entry.turns q.number q }

    abbrev pub begun : Whole
    begun = record w { entries = map.insert w.entries g begun_entry }

    pub is_open : map.get begun_entry.turns q.number ≡ Some q
    is_open = get-insert_same nat_cmp_total nat_cmp-IsAntisymmetric alone.entry.turns q.number q

    one_open : map.len begun_entry.turns ≡ 1
    one_open =
        sym (total-len begun_entry.turns)
        ∙ one_more (λ x. 1) alone.entry.turns q.number q (get-none alone.entry.turns q.number alone.none_open)
        ∙ ap (λ n. n + 1) (total-len alone.entry.turns ∙ alone.none_open)

    pub begins : whole_step logic w (Begin g) ≡ Some begun
    begins = begin_first logic w g alone.entry alone.found state version q [] is alone.queue (may_open_alone logic g alone.entry q alone.none_open)

    turn_answers : (luck : Luck) → Answers w (whole_run logic w (turning (whole_stepper logic) w g luck.closing)) g q
    turn_answers luck =
        let by = whole_stepper logic in
        subst (λ x. Answers w x g q)
        (sym (ap (λ o. whole_run logic w (if is_some o then turn_of by w g luck.closing (map.get w.entries g) else [])) begins
        ∙ ap (λ o. whole_run logic w (turn_of by w g luck.closing o)) alone.found
        ∙ ap (λ qs. whole_run logic w (turn_of_first by w g luck.closing qs)) alone.queue
        ∙ run_done logic w begun (Begin g) (closing by (whole_after logic w (Begin g)) g q.number luck.closing) begins
        ∙ ap (λ o. whole_run logic begun (closing by (unwrap_or o w) g q.number luck.closing)) begins))
        (answers_later w begun (whole_run logic begun (closing by begun g q.number luck.closing)) g q (elsewhere-insert w.entries g begun_entry) refl
        (closes logic begun g begun_entry (get-insert_same grain_cmp_total grain_cmp_exact w.entries g begun_entry) q is_open state version is refl
        (none_left begun_entry.turns q.number q is_open one_open) luck.closing))

-- ---- both

module _ (logic : Logic) (w : Whole) (g : Grain) (q : Request) (luck : Luck) (alone : IsAlone w g q) where
  abbrev up : List Step
  up = raising (whole_stepper logic) w g luck.loading_failed

  abbrev raised : Whole
  raised = whole_run logic w up

  pub none_to_turn : (b : Bool) (found : Option Entry) → found ≡ None → (if b then turn_of (whole_stepper logic) raised g luck.closing found else []) ≡ []
  none_to_turn true found none = ap (turn_of (whole_stepper logic) raised g luck.closing) none
  none_to_turn false found none = refl

  by_raising : Raises w raised g q → Answers w (whole_run logic raised (turning (whole_stepper logic) raised g luck.closing)) g q
  by_raising (inl is_up) =
      answers_later w raised _ g q is_up.elsewhere is_up.replies (turn_answers logic raised g q is_up.alone is_up.state is_up.version is_up.phase luck)
  by_raising (inr down) =
      subst (λ x. Answers w x g q)
      (sym (ap (whole_run logic raised) (none_to_turn (is_some (whole_step logic raised (Begin g))) (map.get raised.entries g) down.1))) down.0

  pub served : Answers w (whole_run logic w (serving (whole_stepper logic) w g luck)) g q
  served =
      subst (λ x. Answers w x g q) (sym (whole_run-append logic w up (turning (whole_stepper logic) raised g luck.closing)))
      (by_raising (raises_by logic w g q alone luck.loading_failed alone.entry.phase refl))
