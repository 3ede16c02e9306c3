use Rattle.grain_kinds.proofs.Newer.{newer_is_newest}
use Rattle.grain_kinds.proofs.laws.newest_has_all.Goals as goal

pub returns : goal.returns
returns c = newer_is_newest
