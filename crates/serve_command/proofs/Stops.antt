-- Why an input isn't served.
use Rattle.std.proofs.Common.{◌≡◌, ℕ, List, Option, sym, subst}
use Rattle.line_text.specs.declared.calls.ReaderCalls.{ReaderCalls}
use Rattle.serve_command.specs.Lanes.{StopsServing, serving_fault}
use Rattle.serve_command.specs.declared.fault.ServiceFault.{ServiceFault}
use Rattle.worker_host.specs.declared.report.ServeFault.{ServeFault}
use Rattle.worker_host.specs.declared.report.ServeFault.TheVariants as serve

-- lanes that were read aren't served
stops_lanes : (fault : ServeFault) (input : Option (List ℕ)) (calls : ReaderCalls) → StopsServing (serving_fault fault) input calls
stops_lanes serve.Memory input calls = tt
stops_lanes serve.NoWorker input calls = tt
stops_lanes serve.Strayed input calls = tt

pub stops_serving : (why : ServiceFault) (fault : ServeFault) (input : Option (List ℕ)) (calls : ReaderCalls) → why ≡ serving_fault fault → StopsServing why input calls
stops_serving why fault input calls is = subst (λ (w : ServiceFault). StopsServing w input calls) (sym is) (stops_lanes fault input calls)
