use Rattle.serve_command.proofs.Stops.{stops_serving}
use Rattle.serve_command.proofs.lanes.serve_input.Goals as goal

pub returns-in-Err-clause-fault : goal.returns-in-Err-clause-fault
returns-in-Err-clause-fault g c =
    let fault = c.in-Err.ensures.fault in
    stops_serving _ fault.0 _ _ fault.1
