-- What closes a turn by a finished turn answers.
use Rattle.std.specs.Prelude.{◌≡◌, Result, Ok, Err}
use Rattle.std.specs.FinMap as map
use Rattle.silo_event.specs.declared.step.Step.{Step}
use Rattle.silo_event.specs.declared.step.Answer.{Answer}
use Rattle.silo_event.specs.declared.step.StepFault.{StepFault}
use Rattle.silo_event.specs.declared.step.StepFault.TheVariants.{Memory, Stranger}
use Rattle.grain_logic.specs.Logic.{Logic}
use Rattle.silo_event.specs.declared.opened_turn.OpenedTurn.{OpenedTurn}
use Rattle.silo_model.specs.Whole.{Whole}
use Rattle.silo_state.specs.Finds.{IsStranger}
use Rattle.silo_core.specs.History.{History, Answered}

-- The turn that the input names is open, and its own message or state isn't the input's.
abbrev pub IsStrangerTo : Whole → OpenedTurn → Type 0
IsStrangerTo w input = IsStranger input.grain (map.get w.entries input.grain) input.number input

-- The finished turn is a stranger, and nothing changed; or it is none, and the step is answered as any.
abbrev pub AnsweredTurn : Logic → History → Step → OpenedTurn → Result Answer StepFault → History → Type 0
AnsweredTurn logic old s input (Ok a) new = Answered logic old s (Ok a) new × (IsStrangerTo old.whole input → ⊥)
AnsweredTurn logic old s input (Err Memory) new = new ≡ old
AnsweredTurn logic old s input (Err Stranger) new = IsStrangerTo old.whole input × (new ≡ old)
