-- There is a test that tells steps apart: it compares their codes, as steps whose storage calls failed.
use Rattle.std.specs.Coded.{codes}
use base.Stored.{Coded}
use Rattle.request_codec.specs.Code.{coded_tree}
use Rattle.silo_event.specs.Failed.{as_failed}
use Rattle.silo_event.specs.declared.step.Step.{Step}
use Rattle.silo_model.proofs.SameCodes.{same_by_code, same_by_code_decides}
use Rattle.lane_model.specs.Lanes.{StepsToldApart}

coded_step : Coded Step
coded_step = Prim.hlevel (codes, coded_tree)

pub steps_told_apart : StepsToldApart
steps_told_apart = (λ s r. same_by_code coded_step (as_failed s) (as_failed r), λ s r. same_by_code_decides coded_step (as_failed s) (as_failed r))
