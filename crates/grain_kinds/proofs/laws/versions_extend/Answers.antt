use Rattle.grain_kinds.specs.LawsOfKinds.{kinds_extend}
use Rattle.grain_kinds.proofs.laws.versions_extend.Goals as goal

pub returns : goal.returns
returns c = kinds_extend
