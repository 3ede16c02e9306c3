use Rattle.std.proofs.Common.{refl}
use Rattle.worker_host.specs.declared.report.ServeFault.TheVariants as serve
use Rattle.serve_command.proofs.Opened.{opened_so}
use Rattle.serve_command.proofs.lanes.serve_read.Goals as goal

pub returns-in_default-clause-fault : goal.returns-in_default-clause-fault
returns-in_default-clause-fault g c = (serve.Memory, refl)

pub returns-in-Ok-serve_lanes-clause-opens_empty : goal.returns-in-Ok-serve_lanes-clause-opens_empty
returns-in-Ok-serve_lanes-clause-opens_empty g c = opened_so c.in-Ok-serve_lanes.report.silo.setup c.args.start.tenants c.args.start.age c.args.start.ages c.in-Ok-serve_lanes.ensures.opened
