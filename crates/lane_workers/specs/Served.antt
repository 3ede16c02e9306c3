-- What workers know of a silo that they serve, whatever is seen of it.
use Rattle.std.specs.Prelude.{Bool, Option, Result}
use Rattle.grain_id.specs.Names.{Client, Grain}
use Rattle.silo_event.specs.declared.opened_turn.OpenedTurn.{OpenedTurn}
use Rattle.silo_event.specs.declared.step.Answer.{Answer}
use Rattle.silo_event.specs.declared.step.Step.{Step}
use Rattle.silo_event.specs.declared.step.StepFault.{StepFault}

-- what a step is answered, and leaves
abbrev pub Answers : Type 0 → Type 1
Answers H = H → Step → Result Answer StepFault → H → Type 0

-- the same of a step that may be served at once: then it has no answer
abbrev pub AnswersAtOnce : Type 0 → Type 1
AnswersAtOnce H = H → Step → Result (Option Answer) StepFault → H → Type 0

-- whether the client, if any, may ask
abbrev pub MayAsk : Type 0 → Type 0
MayAsk H = H → Option Client → Bool

-- which turn begins at a grain, if one does, and what that leaves
abbrev pub Begins : Type 0 → Type 1
Begins H = H → Grain → Option OpenedTurn → H → Type 0

-- what a step that closes a turn by this input is answered, and leaves
abbrev pub Closes : Type 0 → Type 1
Closes H = H → Step → OpenedTurn → Result Answer StepFault → H → Type 0
