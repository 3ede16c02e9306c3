use Rattle.std.proofs.Common.{◌≡◌, ◌+◌}
use Rattle.grain_storage.proofs.Failing.{Counted-failing}
use Rattle.grain_storage.proofs.fused.FusedStorage.fail.Goals as goal

pub returns-clause-failed : goal.returns-clause-failed
returns-clause-failed g c =
    let next : c.self.inside.made + 1 ≡ c.self.inside.fails_at = rw (← c.self.view_is) at c.requires in
    rw (← c.self.view_is) (Counted-failing c.self.inside.fails_at c.self.inside.made next)
