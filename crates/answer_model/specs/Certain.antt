-- Where the storage doesn't fail and there is memory, the luck is good: then an answer is a function of what is asked.
use Rattle.std.specs.Prelude.{◌≡◌, ℕ, Bool, true, false, not, List, [], ◌∷◌}
use Rattle.silo_event.specs.declared.step.Step.{Step}
use Rattle.silo_event.specs.declared.step.Step.TheVariants.{Refuse, Call, Poke, Status, Deliver, Activate, Load, Begin, Store, End}
use Rattle.silo_event.specs.declared.step.Step.TheVariants.{Abandon, Tick, Sweep}
use Rattle.grain_logic.specs.Logic.{Logic}
use Rattle.silo_model.specs.Whole.{Whole, whole_step}
use Rattle.silo_model.specs.Run.{done_by}
use Rattle.silo_model.specs.Opening.{Setup}
use Rattle.silo_model.specs.Journal.{LeadsTo}
use Rattle.silo_event.specs.Failed.{has_failed}
use Rattle.answer_model.specs.Answering.{Asked, all_have_memory, answering, is_asked, whole_stepper}
use Rattle.answer_model.specs.Idle.{AllIdle}

-- the storage didn't fail in the step, and no turn is given up by it
abbrev pub went_well : Step → Bool
went_well (Refuse caller id code) = true
went_well (Call caller id grain message) = true
went_well (Poke failed caller id grain state) = not failed
went_well (Status caller id) = true
went_well (Deliver grain) = true
went_well (Activate grain) = true
went_well (Load grain failed) = not failed
went_well (Begin grain) = true
went_well (Store grain turn failed) = not failed
went_well (End grain turn) = true
went_well (Abandon grain turn) = false
went_well (Tick now) = true
went_well Sweep = true

abbrev pub AllWell : List Step → Type 0
AllWell [] = Unit {0}
AllWell (s ∷ steps) = (went_well s ≡ true) × AllWell steps

-- the same is asked, with good luck
abbrev pub luckily : Asked → Asked
luckily asked = record { step = asked.step; lucks = [] }

-- From where a journal leads and where all is idle: if all that was done for what is asked went well, it is what is done with good luck.
abbrev pub AnsweredCertainly : Type 0
AnsweredCertainly = (logic : Logic) (setup : Setup) (journal : List Step) (w : Whole) (n : ℕ) (asked : Asked)
    → LeadsTo logic setup journal w → AllIdle w.entries → is_asked asked.step ≡ true
    → AllWell (done_by (whole_step logic) w (answering (whole_stepper logic) n w asked))
    → answering (whole_stepper logic) n w asked ≡ answering (whole_stepper logic) n w (luckily asked)

-- the storage didn't fail in any of them
abbrev pub AllStored : List Step → Type 0
AllStored [] = Unit {0}
AllStored (s ∷ steps) = (has_failed s ≡ false) × AllStored steps

-- So it is if the storage didn't fail and no turn was given up for want of memory, even where turns are given up since too many calls wait.
abbrev pub AnsweredSurely : Type 0
AnsweredSurely = (logic : Logic) (setup : Setup) (journal : List Step) (w : Whole) (n : ℕ) (asked : Asked)
    → LeadsTo logic setup journal w → AllIdle w.entries → is_asked asked.step ≡ true → all_have_memory asked.lucks ≡ true
    → AllStored (done_by (whole_step logic) w (answering (whole_stepper logic) n w asked))
    → answering (whole_stepper logic) n w asked ≡ answering (whole_stepper logic) n w (luckily asked)
