use Rattle.std.proofs.Common.{◌∙◌}
use Rattle.silo_state.proofs.Shows.{quiet_mail}
use Rattle.silo_state.proofs.change.is_quiet.Goals as goal

pub returns : goal.returns
returns c = c.is_idle.ensures ∙ quiet_mail c.args.activation.now
