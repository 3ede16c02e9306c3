use Rattle.std.proofs.Common.{rules}
use Rattle.serve_command.proofs.lanes.serve_lanes.Goals as goal

pub returns : goal.returns
returns g c = record {
  opened = search rules;
  served = search rules;
  told = c.in_ok-report.ensures.answered;
  parts = c.in_ok-report.ensures.parts;
}
