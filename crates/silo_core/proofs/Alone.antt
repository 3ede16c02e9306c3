-- A run of one tenant's steps.
use Rattle.std.proofs.Common.{◌≡◌, ℕ, zero, suc, cond, List, [], ◌∷◌, length, take, refl, ap, ◌∙◌, subst}
use Rattle.silo_event.specs.declared.step.Step.{Step}
use Rattle.silo_event.specs.declared.step.Answer.{Answer}
use Rattle.grain_logic.specs.Logic.{Logic}
use Rattle.silo_model.specs.Machine.{Machine}
use Rattle.silo_model.specs.Run.{restricted_to, answers_to}
use Rattle.silo_model.specs.Answers.{AreMachineAnswers}
use Rattle.silo_core.specs.Runs.{AllConcern}

concern_take : (tenant : List ℕ) (n : ℕ) (ss : List Step) → AllConcern tenant ss → AllConcern tenant (take n ss)
concern_take tenant zero ss h = tt
concern_take tenant (suc n) [] h = tt
concern_take tenant (suc n) (s ∷ ss) h = (h.0, concern_take tenant n ss h.1)

-- none is struck out
pub all_restricted : (tenant : List ℕ) (ss : List Step) → AllConcern tenant ss → restricted_to tenant ss ≡ ss
all_restricted tenant [] h = refl
all_restricted tenant (s ∷ ss) h = (λ i. cond (h.0 i) (s ∷ restricted_to tenant ss) (restricted_to tenant ss)) ∙ ap (λ (rest : List Step). s ∷ rest) (all_restricted tenant ss h.1)

-- and no answer
pub all_answers : (tenant : List ℕ) (ss : List Step) (given : List Answer) → length given ≡ length ss → AllConcern tenant ss → answers_to tenant ss given ≡ given
all_answers tenant [] [] same h = refl
all_answers tenant [] (a ∷ given) same h = absurd (cc (same))
all_answers tenant (s ∷ ss) [] same h = absurd (cc (same))
all_answers tenant (s ∷ ss) (a ∷ given) same h =
    (λ i. cond (h.0 i) (a ∷ answers_to tenant ss given) (answers_to tenant ss given)) ∙ ap (λ (rest : List Answer). a ∷ rest) (all_answers tenant ss given (cc (same)) h.1)

pub alone : (logic : Logic) (tenant : List ℕ) (m : Machine) (n : ℕ) (ss : List Step) (given : List Answer) → length given ≡ length (take n ss) → AllConcern tenant ss
    → AreMachineAnswers logic m (restricted_to tenant (take n ss)) (answers_to tenant (take n ss) given) → AreMachineAnswers logic m (take n ss) given
alone logic tenant m n ss given same h are =
    let own = concern_take tenant n ss h in
    subst (λ (answers : List Answer). AreMachineAnswers logic m (take n ss) answers) (all_answers tenant (take n ss) given same own)
    (subst (λ (steps : List Step). AreMachineAnswers logic m steps (answers_to tenant (take n ss) given)) (all_restricted tenant (take n ss) own) are)
