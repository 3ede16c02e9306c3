use Rattle.std.proofs.Common.{sym, subst}
use Rattle.idle_collector.specs.inside.Aside.{with_latest}
use Rattle.idle_collector.specs.Notes.{Collection, HoldsDue}
use Rattle.idle_collector.proofs.Aside.{latest-due}
use Rattle.idle_collector.proofs.collector.Collector.all_due.Goals as goal

pub returns : goal.returns
returns c =
    let inside = c.self.inside in
    let now = c.args.now in
    let held = latest-due inside.latest inside.filed now c.in_ok-grains.grains.items c.self.invariant c.in_ok-grains.ensures in
    let all = c.add_due.new.grains.items in
    subst (λ (x : Collection). HoldsDue x.notes now all) c.self.view_is (subst (HoldsDue (with_latest inside.latest inside.filed) now) (sym c.in_ok-add_due.ensures) held)
