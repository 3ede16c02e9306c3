use Rattle.idle_collector.proofs.Due.{holds-due}
use Rattle.idle_collector.proofs.collector.Collector.due.Goals as goal

pub returns : goal.returns
returns c = holds-due c.args.self.now.notes c.args.now c.in_ok-grains.grains.items c.sort_unstable.new.self.items c.in_ok-grains.ensures c.sort_unstable.ensures.permutation c.sort_unstable.ensures.sorted
