-- What serving tells of a fault of its workers.
use Rattle.lane_workers.specs.declared.workers.WorkFault.{WorkFault}
use Rattle.lane_workers.specs.declared.workers.WorkFault.TheVariants as work
use Rattle.worker_host.specs.declared.report.ServeFault.{ServeFault}
use Rattle.worker_host.specs.declared.report.ServeFault.TheVariants as serve

-- the fault is told as it is
abbrev pub fault_of : WorkFault → ServeFault
fault_of work.Memory = serve.Memory
fault_of work.NoWorker = serve.NoWorker
