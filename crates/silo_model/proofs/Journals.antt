-- What holds of every whole that a journal leads to.
use Rattle.silo_model.proofs.Common.{◌++◌, ◌∙◌, ◌∷◌, ◌≡◌, ◌≢◌, LeadsTo, List, Logic, Machine, Option, Reply, Setup, Some, Step, Whole, []}
use Rattle.silo_model.proofs.Common.{all_done, ap, append-nil, applied, concerns, cond, machine_all_done, machine_step, none-some, opening}
use Rattle.silo_model.proofs.Common.{option_and_then, owner_of, refl, restricted_to, same_Some, shown_to, some_from_and_then, spread, subst}
use Rattle.silo_model.proofs.Common.{sym, unwrap_or, whole_run, whole_step, ℕ}
use Rattle.silo_model.specs.Journal.{all_done_by}
use Rattle.silo_model.specs.Laws.{JournalsGrow, JournalsReplay, NotNow, OtherParts, OwnPart, PartsLead, RunsOn}
use Rattle.silo_model.proofs.Tests.{on_test}
use Rattle.silo_model.proofs.Sound.{IsSound}
use Rattle.silo_model.proofs.Proper.{AllTo}
use Rattle.silo_model.proofs.SharedSteps.{shared_leaves}
use Rattle.silo_model.proofs.Isolation as isolation
use Rattle.silo_model.proofs.Runs.{run_shown}
use Rattle.silo_model.proofs.Opening.{opening_shown, opening_sound}

-- ---- from any whole

-- what each step that is done keeps is kept by all of them
pub all_keep : {M : Type 0} (step : M → Step → Option M) (P : M → Type 0) → ((m next : M) (s : Step) → P m → step m s ≡ Some next → P next)
    → (m after : M) (steps : List Step) → P m → all_done_by step m steps ≡ Some after → P after
all_keep step P keeps m after [] holds e = subst P (same_Some m after e) holds
all_keep step P keeps m after (s ∷ steps) holds e =
    let next = some_from_and_then (λ x. all_done_by step x steps) (step m s) after e in
    all_keep step P keeps next.0 after steps (keeps m next.0 s holds next.1) next.2

all_done_run : (logic : Logic) (w after : Whole) (steps : List Step) → all_done logic w steps ≡ Some after → whole_run logic w steps ≡ after
all_done_run logic w after [] e = same_Some w after e
all_done_run logic w after (s ∷ steps) e =
    let next = some_from_and_then (λ x. all_done logic x steps) (whole_step logic w s) after e in
    ap (λ o. whole_run logic (unwrap_or o w) steps) next.1 ∙ all_done_run logic next.0 after steps next.2

all_done_grown : (logic : Logic) (first w after : Whole) (journal : List Step) (s : Step) → all_done logic first journal ≡ Some w → whole_step logic w s ≡ Some after → all_done logic first (journal ++ s ∷ []) ≡ Some after
all_done_grown logic first w after [] s e step = ap (λ x. option_and_then (λ y. Some y) (whole_step logic x s)) (same_Some first w e) ∙ ap (option_and_then (λ y. Some y)) step
all_done_grown logic first w after (r ∷ journal) s e step =
    let next = some_from_and_then (λ x. all_done logic x journal) (whole_step logic first r) w e in
    ap (option_and_then (λ y. all_done logic y (journal ++ s ∷ []))) next.1 ∙ all_done_grown logic next.0 w after journal s next.2 step

-- ---- from the opening

pub journal_sound : (logic : Logic) (setup : Setup) (journal : List Step) (w : Whole) → LeadsTo logic setup journal w → IsSound w
journal_sound logic setup journal w leads =
    all_keep (whole_step logic) IsSound (isolation.step_sound logic) (opening setup) w journal (opening_sound setup) leads

-- no step is done yet
pub journals_begin : (logic : Logic) (setup : Setup) → LeadsTo logic setup [] (opening setup)
journals_begin logic setup = refl

pub journals_replay : JournalsReplay
journals_replay logic setup journal w leads = all_done_run logic (opening setup) w journal leads

pub journals_grow : JournalsGrow
journals_grow logic setup journal w after s leads step = all_done_grown logic (opening setup) w after journal s leads step

pub own_part : OwnPart
own_part logic setup journal w after s tenant leads concerned step = isolation.own_part logic w s tenant after (journal_sound logic setup journal w leads) concerned step

pub other_parts : OtherParts
other_parts logic setup journal w after s tenant leads apart step = isolation.other_parts logic w s tenant after (journal_sound logic setup journal w leads) apart step

pub not_now : NotNow
not_now logic w s tenant concerned step = isolation.not_now logic w s tenant concerned step

-- the same by the step's owner
pub owners_part : (logic : Logic) (setup : Setup) (journal : List Step) (w after : Whole) (s : Step) (owner : List ℕ)
    → LeadsTo logic setup journal w → owner_of s ≡ Some owner → whole_step logic w s ≡ Some after → machine_step logic (shown_to owner w) s ≡ Some (shown_to owner after)
owners_part logic setup journal w after s owner leads is step = isolation.owners_part logic w after s owner (journal_sound logic setup journal w leads) is step

pub others_parts : (logic : Logic) (setup : Setup) (journal : List Step) (w after : Whole) (s : Step) (owner tenant : List ℕ)
    → LeadsTo logic setup journal w → owner_of s ≡ Some owner → tenant ≢ owner → whole_step logic w s ≡ Some after → shown_to tenant after ≡ shown_to tenant w
others_parts logic setup journal w after s owner tenant leads is apart step = isolation.others_parts logic w after s owner tenant (journal_sound logic setup journal w leads) is apart step

pub runs_on : RunsOn
runs_on logic setup journal w tenant steps leads = run_shown logic tenant steps w (journal_sound logic setup journal w leads)

-- the steps that concern a tenant are all done in its own machine
struck_done : (logic : Logic) (tenant : List ℕ) (w after : Whole) (steps : List Step) → IsSound w → all_done logic w steps ≡ Some after → machine_all_done logic (shown_to tenant w) (restricted_to tenant steps) ≡ Some (shown_to tenant after)
struck_done logic tenant w after [] sound e = ap (λ (x : Whole). Some (shown_to tenant x)) (same_Some w after e)
struck_done logic tenant w after (s ∷ steps) sound e =
    let next = some_from_and_then (λ x. all_done logic x steps) (whole_step logic w s) after e in
    let rest = struck_done logic tenant next.0 after steps (isolation.step_sound logic w next.0 s sound next.1) next.2 in
    let own : List Step = restricted_to tenant steps in
    on_test (λ b. machine_all_done logic (shown_to tenant w) (cond b (s ∷ own) own) ≡ Some (shown_to tenant after)) (concerns tenant s)
    (λ is. ap (option_and_then (λ m. machine_all_done logic m own)) (isolation.own_part logic w s tenant next.0 sound is next.1) ∙ rest)
    (λ is. ap (λ m. machine_all_done logic m own) (sym (isolation.other_parts logic w s tenant next.0 sound is next.1)) ∙ rest)

pub parts_lead : PartsLead
parts_lead logic setup journal w tenant leads =
    ap (λ m. machine_all_done logic m (restricted_to tenant journal)) (sym (opening_shown setup tenant))
    ∙ struck_done logic tenant (opening setup) w journal (opening_sound setup) leads

-- ---- what a step replies

-- The replies that a step adds stand last among all, and last among its owner's, to whom each of them is.
pub record Adds (w : Whole) (s : Step) (after : Whole) : Type 0 where
  pub added : List Reply
  pub replies : after.replies ≡ w.replies ++ added
  pub to_owner : (owner : List ℕ) → owner_of s ≡ Some owner → AllTo owner added
  pub own_replies : (owner : List ℕ) → owner_of s ≡ Some owner → (shown_to owner after).replies ≡ (shown_to owner w).replies ++ added

adds_by : (logic : Logic) (w after : Whole) (s : Step) → IsSound w → (owner : List ℕ) → owner_of s ≡ Some owner → isolation.Did logic w s owner after
    → Adds w s after
unfolding spread applied
adds_by logic w after s sound owner is d =
    let place = isolation.place_in w owner s in
    let proper = isolation.did_proper logic w after s owner is sound d in
    let own : shown_to owner after ≡ applied (shown_to owner w) place d.what = sym (ap (shown_to owner) d.leaves) ∙ isolation.spread_own w owner place d.what proper in
    let P : List ℕ → Type 0 = λ o. AllTo o d.what.replies in
    let Q : List ℕ → Type 0 = λ o. (shown_to o after).replies ≡ (shown_to o w).replies ++ d.what.replies in
    let same : (other : List ℕ) → owner_of s ≡ Some other → owner ≡ other = λ other e. same_Some owner other (sym is ∙ e) in
    record {
      added = d.what.replies;
      replies = sym (ap (λ (x : Whole). x.replies) d.leaves);
      to_owner = λ other e. subst P (same other e) proper.replies;
      own_replies = λ other e. subst Q (same other e) (ap (λ (m : Machine). m.replies) own);
    }

pub adds_owned : (logic : Logic) (w after : Whole) (s : Step) → IsSound w → whole_step logic w s ≡ Some after → Adds w s after
adds_owned logic w after s sound step =
    isolation.by_owner logic w after s (Adds w s after) step
    (λ is nobodys. record {
      added = [];
      replies = (shared_leaves w after s nobodys).replies ∙ sym (append-nil w.replies);
      to_owner = λ owner e. tt;
      own_replies = λ owner e. absurd (none-some owner (sym is ∙ e));
    })
    (adds_by logic w after s sound)

pub adds_replies : (logic : Logic) (setup : Setup) (journal : List Step) (w after : Whole) (s : Step) → LeadsTo logic setup journal w → whole_step logic w s ≡ Some after → Adds w s after
adds_replies logic setup journal w after s leads step = adds_owned logic w after s (journal_sound logic setup journal w leads) step
