-- What closing the turns leaves that a worker took at once.
use Rattle.std.specs.Prelude.{◌≡◌, ◌⊎◌, false, List, [], ◌∷◌, Ok}
use Rattle.silo_event.specs.declared.step.Answer.{Answer}
use Rattle.silo_event.specs.declared.step.Step.{Step}
use Rattle.silo_event.specs.declared.step.Step.TheVariants.{Abandon, End, Store}
use Rattle.grain_logic.specs.Finished.{turn_plan}
use Rattle.grain_logic.specs.Logic.{Logic, StorageCall, asks_nothing, reads_row, writes_row, clears_row}
use Rattle.silo_event.specs.declared.opened_turn.OpenedTurn.{OpenedTurn}
use Rattle.lane_workers.specs.Served.{Answers}
use Rattle.lane_workers.specs.Turns.{Ran, turn_of}

-- the step that closes a turn with this call of the storage: an end if there is none
abbrev pub closed_by : StorageCall → OpenedTurn → Step
closed_by asks_nothing turn = End turn.grain turn.number
closed_by reads_row turn = Store turn.grain turn.number false
closed_by writes_row turn = Store turn.grain turn.number false
closed_by clears_row turn = Store turn.grain turn.number false

-- the step that closes a turn by its own plan
abbrev pub closing_step : Logic → OpenedTurn → Step
closing_step logic turn = closed_by (turn_plan logic turn).storage turn

-- The step was answered somehow, or nothing changed.
abbrev pub IsTried : {H : Type 0} → Answers H → H → Step → H → Type 0
IsTried answers old s new = ((answer : Answer) × answers old s (Ok answer) new) ⊎ (new ≡ old)

-- At most one step was taken: the one that closes the turn by its own plan, or the one that gives it up.
abbrev pub IsClosed : {H : Type 0} → Answers H → Logic → H → OpenedTurn → H → Type 0
IsClosed answers logic old turn new =
    IsTried answers old (closing_step logic turn) new ⊎ IsTried answers old (Abandon turn.grain turn.number) new

-- Each was closed so, one after another.
abbrev pub AreClosed : {H : Type 0} → Answers H → Logic → H → List Ran → H → Type 0
AreClosed answers logic old [] new = new ≡ old
AreClosed {H} answers logic old (turn ∷ others) new =
    (mid : H) × IsClosed answers logic old (turn_of turn) mid × AreClosed answers logic mid others new
