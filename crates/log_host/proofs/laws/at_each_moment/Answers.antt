use Rattle.log_host.proofs.Crashes.{at_each_moment}
use Rattle.log_host.proofs.laws.at_each_moment.Goals as goal

pub returns : goal.returns
returns c = at_each_moment
