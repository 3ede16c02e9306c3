use Rattle.grain_kinds.proofs.KeepSame as same
use Rattle.grain_kinds.proofs.laws.kinds_keep_same.Goals as goal

pub returns : goal.returns
returns c = same.kinds_keep_same
