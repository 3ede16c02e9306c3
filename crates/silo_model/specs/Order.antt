-- Requests of one grain begin in the order in which they were accepted.
use Rattle.std.specs.Prelude.{◌≡◌, ℕ, ◌<◌, List, [], ◌∷◌, Some}
use Rattle.std.specs.FinMap as map
use Rattle.grain_id.specs.Names.{Grain}
use Rattle.silo_event.specs.declared.step.Step.{Step}
use Rattle.grain_logic.specs.Logic.{Logic}
use Rattle.silo_model.specs.Machine.{Entry, Request}
use Rattle.silo_model.specs.Whole.{Whole}
use Rattle.silo_model.specs.Opening.{Setup}
use Rattle.silo_model.specs.Journal.{LeadsTo}

-- each of these was accepted behind the one of that number
abbrev pub AllBehind : ℕ → List Request → Type 0
AllBehind n [] = Unit {0}
AllBehind n (q ∷ queue) = (n < q.number) × AllBehind n queue

-- each stands before those that were accepted behind it
abbrev pub Ascend : List Request → Type 0
Ascend [] = Unit {0}
Ascend (q ∷ queue) = AllBehind q.number queue × Ascend queue

-- What waits stands in the order in which it was accepted, and what is open was accepted before all that waits.
pub record IsInOrder (e : Entry) : Type 0 where
  pub queue : Ascend e.queue
  pub turns : (n : ℕ) (turn : Request) → map.get e.turns n ≡ Some turn → AllBehind turn.number e.queue

-- So it is with each entry of a whole that a journal leads to.
abbrev pub BeginInOrder : Type 0
BeginInOrder = (logic : Logic) (setup : Setup) (journal : List Step) (w : Whole) (g : Grain) (e : Entry)
    → LeadsTo logic setup journal w → map.get w.entries g ≡ Some e → IsInOrder e
