-- Which steps are asked and which went well, kind by kind.
use Rattle.silo_model.proofs.Common.{◌&&◌, ◌≡◌, Abandon, Activate, Begin, Bool, Call, Deliver, End, Load, Poke, Refuse, Status, Step, Store}
use Rattle.silo_model.proofs.Common.{Sweep, Tick, false, is_some, not, refl, true}
use Rattle.silo_event.specs.Failed.{has_failed}
use Rattle.answer_model.specs.Answering.{is_asked}
use Rattle.answer_model.specs.Certain.{went_well}
use Rattle.lane_model.specs.Lanes.{lane_of}
use Rattle.silo_laws.specs.AskedSteps.{AskedSteps, gives_up}

asked_is : (s : Step) → is_asked s ≡ (is_some (lane_of s) && not (has_failed s))
asked_is (Refuse caller id code) = refl
asked_is (Call caller id g call) = refl
asked_is (Poke failed caller id g state) = refl
asked_is (Status caller id) = refl
asked_is (Deliver g) = refl
asked_is (Activate g) = refl
asked_is (Load g failed) = refl
asked_is (Begin g) = refl
asked_is (Store g turn failed) = refl
asked_is (End g turn) = refl
asked_is (Abandon g turn) = refl
asked_is (Tick now) = refl
asked_is Sweep = refl

-- a mark alone
by_mark : (failed : Bool) → not failed ≡ (not failed && true)
by_mark true = refl
by_mark false = refl

well_is : (s : Step) → went_well s ≡ (not (has_failed s) && not (gives_up s))
well_is (Refuse caller id code) = refl
well_is (Call caller id g call) = refl
well_is (Poke failed caller id g state) = by_mark failed
well_is (Status caller id) = refl
well_is (Deliver g) = refl
well_is (Activate g) = refl
well_is (Load g failed) = by_mark failed
well_is (Begin g) = refl
well_is (Store g turn failed) = by_mark failed
well_is (End g turn) = refl
well_is (Abandon g turn) = refl
well_is (Tick now) = refl
well_is Sweep = refl

pub asked_steps : AskedSteps
asked_steps = record { asked = asked_is; well = well_is }
