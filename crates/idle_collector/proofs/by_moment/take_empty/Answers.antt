use Rattle.std.proofs.Common.{rules, sym}
use Rattle.std.proofs.lemmas.List.{nil_from_length}
use Rattle.idle_collector.proofs.Sets.{leaves_notes}
use Rattle.idle_collector.proofs.by_moment.take_empty.Goals as goal

pub returns-clause-notes : goal.returns-clause-notes
returns-clause-notes c =
    let set = c.in_ok-grains.grains.now in
    leaves_notes c.args.sets.now c.remove.new.self c.requires c.remove.ensures.ordered c.args.moment set (sym c.in_ok-grains.ensures.value) (nil_from_length set.keys (search rules)) c.remove.ensures.updates.0
