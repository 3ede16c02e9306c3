-- Which steps are asked, and which went well.
use Rattle.std.specs.Prelude.{◌&&◌, ◌≡◌, Bool, false, is_some, not, true}
use Rattle.silo_event.specs.Failed.{has_failed}
use Rattle.silo_event.specs.declared.step.Step.{Step}
use Rattle.silo_event.specs.declared.step.Step.TheVariants.{Abandon}
use Rattle.answer_model.specs.Answering.{is_asked}
use Rattle.answer_model.specs.Certain.{went_well}
use Rattle.lane_model.specs.Lanes.{lane_of}

-- a turn is given up
abbrev pub gives_up : Step → Bool
gives_up (Abandon grain turn) = true
gives_up _ = false

-- Exactly the steps that a lane gives, without a mark of a failure, are asked; and exactly those went well in which the
-- storage didn't fail and by which no turn is given up.
pub record AskedSteps : Type 0 where
  pub asked : (s : Step) → is_asked s ≡ (is_some (lane_of s) && not (has_failed s))
  pub well : (s : Step) → went_well s ≡ (not (has_failed s) && not (gives_up s))
