use Rattle.grain_kinds.specs.LawsOfKinds.{kinds_lawful}
use Rattle.grain_kinds.proofs.laws.lawful.Goals as goal

pub returns : goal.returns
returns c = kinds_lawful
