use Rattle.std.proofs.Common.{◌∙◌}
use Rattle.silo_state.proofs.Shows.{idle_mail}
use Rattle.silo_state.proofs.change.is_idle.Goals as goal

pub returns-in-Ready : goal.returns-in-Ready
returns-in-Ready c = c.is_idle.ensures ∙ idle_mail c.args.activation.now c.in-Ready.state c.in-Ready.version c.in-Ready.is
