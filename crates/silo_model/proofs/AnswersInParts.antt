-- The answers at a tenant's steps in a list of many tenants' steps.
use Rattle.silo_model.proofs.Common.{◌∙◌, ◌∷◌, ◌≡◌, AreAnswers, Bool, List, Logic, Machine, None, Step, Sweep, Whole, [], ap, as_failed}
use Rattle.silo_model.proofs.Common.{concerns, concerns_by, cond, false, machine_run, machine_step, none-some, owner_of, refl}
use Rattle.silo_model.proofs.Common.{restricted_to, shown_to, subst, sym, true, whole_step, ℕ}
use Rattle.silo_event.specs.Failed.{marked_step}
use Rattle.silo_event.specs.declared.step.Answer.{Answer}
use Rattle.silo_event.specs.declared.step.Answer.TheVariants as answer
use Rattle.silo_model.specs.Run.{answer_of, answers_by, answers_to, marked}
use Rattle.silo_model.specs.Answers.{AreMachineAnswers, IsAnswer, IsAnswerBy}
use Rattle.silo_model.specs.Parts.{RunsAnswer, StepAnswersInParts}
use Rattle.silo_model.proofs.Tests.{on_found, on_test}
use Rattle.silo_model.proofs.Sound.{IsSound}
use Rattle.silo_model.proofs.Isolation.{not_now, own_part}
use Rattle.silo_model.proofs.Runs.{machine_after, next_shown, next_sound, run_shown, whole_after}
use Rattle.silo_model.proofs.Journals.{journal_sound}

-- ---- a step is its tenant's also where its storage call failed

owner_failed : (s : Step) → owner_of (as_failed s) ≡ owner_of s
owner_failed Sweep = refl
owner_failed _ = refl

owner_marked : (s : Step) (a : Answer) → owner_of (marked_step s a) ≡ owner_of s
owner_marked s answer.Failed = owner_failed s
owner_marked s _ = refl

pub concerns_marked : (tenant : List ℕ) (s : Step) (a : Answer) → concerns tenant (marked_step s a) ≡ concerns tenant s
concerns_marked tenant s a = ap (concerns_by tenant) (owner_marked s a)

marked_cond : (b : Bool) (s : Step) (a : Answer) (steps : List Step) (answers : List Answer)
    → cond b (marked_step s a ∷ marked steps answers) (marked steps answers) ≡ marked (cond b (s ∷ steps) steps) (cond b (a ∷ answers) answers)
marked_cond true s a steps answers = refl
marked_cond false s a steps answers = refl

marked_none : (steps : List Step) → marked steps [] ≡ []
marked_none [] = refl
marked_none (s ∷ steps) = refl

-- the tenant's steps as they were taken, by its own answers
pub restricted-marked : (tenant : List ℕ) (steps : List Step) (answers : List Answer) → restricted_to tenant (marked steps answers) ≡ marked (restricted_to tenant steps) (answers_to tenant steps answers)
restricted-marked tenant [] answers = refl
restricted-marked tenant (s ∷ steps) [] = sym (marked_none (restricted_to tenant (s ∷ steps)))
restricted-marked tenant (s ∷ steps) (a ∷ answers) =
    (λ i. cond (concerns_marked tenant s a i) (marked_step s a ∷ restricted-marked tenant steps answers i) (restricted-marked tenant steps answers i))
    ∙ marked_cond (concerns tenant s) s a (restricted_to tenant steps) (answers_to tenant steps answers)

-- ---- one step

module _ (logic : Logic) (w : Whole) (sound : IsSound w) (tenant : List ℕ) where
  -- the tenant's machine answers as the whole does
  pub same_answer : (s : Step) → concerns tenant s ≡ true → answer_of (whole_step logic w s) ≡ answer_of (machine_step logic (shown_to tenant w) s)
  same_answer s concerned =
      on_found (λ r. answer_of r ≡ answer_of (machine_step logic (shown_to tenant w) s)) (whole_step logic w s)
      (λ e. ap answer_of (sym (not_now logic w s tenant concerned e)))
      (λ after e. ap answer_of (sym (own_part logic w s tenant after sound concerned e)))

  not_none : (s : Step) → concerns tenant s ≡ true → (whole_step logic w s ≡ None → ⊥) → machine_step logic (shown_to tenant w) s ≡ None → ⊥
  not_none s concerned done none =
      on_found (λ _. ⊥) (whole_step logic w s) done
      (λ after e. none-some (shown_to tenant after) (sym none ∙ own_part logic w s tenant after sound concerned e))

  own_answer : (s : Step) (a : Answer) → concerns tenant s ≡ true → IsAnswer logic w s a → IsAnswerBy (machine_step logic) (shown_to tenant w) s a
  own_answer s answer.Done concerned is = not_none s concerned is
  own_answer s answer.Failed concerned is = (is.0, not_none (as_failed s) (ap (concerns_by tenant) (owner_failed s) ∙ concerned) is.1)
  own_answer s answer.NotNow concerned is = not_now logic w s tenant concerned is

-- ---- lists

answered_alone : (logic : Logic) (tenant : List ℕ) (w : Whole) (steps : List Step) (answers : List Answer) → IsSound w → AreAnswers logic w steps answers → AreMachineAnswers logic (shown_to tenant w) (restricted_to tenant steps) (answers_to tenant steps answers)
answered_alone logic tenant w [] answers sound are = tt
answered_alone logic tenant w (s ∷ steps) [] sound are = none_given (restricted_to tenant (s ∷ steps))
  where
    none_given : (struck : List Step) → AreMachineAnswers logic (shown_to tenant w) struck []
    none_given [] = tt
    none_given (r ∷ struck) = tt
answered_alone logic tenant w (s ∷ steps) (a ∷ answers) sound are =
    let taken = marked_step s a in
    let m : Machine = shown_to tenant w in
    let own : List Step = restricted_to tenant steps in
    let told : List Answer = answers_to tenant steps answers in
    let rest : AreMachineAnswers logic (cond (concerns tenant s) (machine_after logic m taken) m) own told =
    subst (λ x. AreMachineAnswers logic x own told)
    (next_shown logic w taken sound tenant ∙ ap (λ b. cond b (machine_after logic m taken) m) (concerns_marked tenant s a))
    (answered_alone logic tenant (whole_after logic w taken) steps answers (next_sound logic w taken sound) are.1) in
    on_test
    (λ b. AreMachineAnswers logic (cond b (machine_after logic m taken) m) own told
    → AreMachineAnswers logic m (cond b (s ∷ own) own) (cond b (a ∷ told) told))
    (concerns tenant s) (λ is next. (own_answer logic w sound tenant s a is are.0, next)) (λ _ next. next) rest

pub answered_in_parts : StepAnswersInParts
answered_in_parts logic setup journal w tenant steps answers leads are =
    let sound = journal_sound logic setup journal w leads in
    record {
      answers_are = answered_alone logic tenant w steps answers sound are;
      part = run_shown logic tenant (marked steps answers) w sound ∙ ap (machine_run logic (shown_to tenant w)) (restricted-marked tenant steps answers);
    }

answers_of_cond : (logic : Logic) (b : Bool) (m : Machine) (s : Step) (steps : List Step) (a : Answer) → (b ≡ true → a ≡ answer_of (machine_step logic m s))
    → cond b (a ∷ answers_by (machine_step logic) (machine_after logic m s) steps) (answers_by (machine_step logic) m steps) ≡ answers_by (machine_step logic) m (cond b (s ∷ steps) steps)
answers_of_cond logic true m s steps a same = ap (λ (x : Answer). x ∷ answers_by (machine_step logic) (machine_after logic m s) steps) (same refl)
answers_of_cond logic false m s steps a same = refl

cond_answers : (b : Bool) (next m : Machine) (run : Machine → List Answer) (a : Answer) → cond b (a ∷ run (cond b next m)) (run (cond b next m)) ≡ cond b (a ∷ run next) (run m)
cond_answers true next m run a = refl
cond_answers false next m run a = refl

runs_answer_from : (logic : Logic) (tenant : List ℕ) (w : Whole) (steps : List Step) → IsSound w
    → answers_to tenant steps (answers_by (whole_step logic) w steps) ≡ answers_by (machine_step logic) (shown_to tenant w) (restricted_to tenant steps)
runs_answer_from logic tenant w [] sound = refl
runs_answer_from logic tenant w (s ∷ steps) sound =
    let b = concerns tenant s in
    let m = shown_to tenant w in
    let a = answer_of (whole_step logic w s) in
    let run : Machine → List Answer = λ n. answers_by (machine_step logic) n (restricted_to tenant steps) in
    let rest = runs_answer_from logic tenant (whole_after logic w s) steps (next_sound logic w s sound) ∙ ap run (next_shown logic w s sound tenant) in
    ap (λ (as' : List Answer). cond b (a ∷ as') as') rest
    ∙ cond_answers b (machine_after logic m s) m run a
    ∙ answers_of_cond logic b m s (restricted_to tenant steps) a (same_answer logic w sound tenant s)

pub runs_answer : RunsAnswer
runs_answer logic setup journal w tenant steps leads = runs_answer_from logic tenant w steps (journal_sound logic setup journal w leads)
