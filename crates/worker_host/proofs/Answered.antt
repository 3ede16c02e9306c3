-- What a step's answer leaves: after a fault all is as it was, and a turn that was closed was closed by its own step.
use Rattle.std.proofs.Common.{◌≡◌, ◌∙◌, subst}
use Rattle.std.specs.Prelude.{Result, Ok, Err, IfOk, OnErr}
use Rattle.grain_logic.specs.Logic.{Logic}
use Rattle.silo_event.specs.declared.opened_turn.OpenedTurn.{OpenedTurn}
use Rattle.silo_event.specs.declared.step.Step.{Step}
use Rattle.silo_event.specs.declared.step.Answer.{Answer}
use Rattle.silo_event.specs.declared.step.StepFault.{StepFault}
use Rattle.silo_event.specs.declared.step.StepFault.TheVariants.{Memory, Stranger}
use Rattle.silo_core.specs.History.{History, Answered}
use Rattle.silo_core.specs.Turns.{AnsweredTurn}

module _ (logic : Logic) (old new : History) (s : Step) (now : History) (same : old ≡ now) where
  -- what a step was answered, as the silo is seen
  pub answered_at : (r : Result Answer StepFault) → Answered logic old s r new → Answered logic now s r new
  answered_at r h = subst (λ (at : History). Answered logic at s r new) same h

  -- a fault leaves all as it was
  pub fault_stays : (r : Result Answer StepFault) → Answered logic old s r new → OnErr r (new ≡ now)
  fault_stays (Ok a) h = tt
  fault_stays (Err Memory) h = h ∙ same
  fault_stays (Err Stranger) h = absurd h

  -- a turn that was closed was closed by this step
  pub closed_so : (input : OpenedTurn) (r : Result Answer StepFault) → AnsweredTurn logic old s input r new → IfOk r (λ a. Answered logic now s (Ok a) new)
  closed_so input (Ok a) h = answered_at (Ok a) h.0
  closed_so input (Err why) h = tt

  pub closed_stays : (input : OpenedTurn) (r : Result Answer StepFault) → AnsweredTurn logic old s input r new → OnErr r (new ≡ now)
  closed_stays input (Ok a) h = tt
  closed_stays input (Err Memory) h = h ∙ same
  closed_stays input (Err Stranger) h = h.1 ∙ same
