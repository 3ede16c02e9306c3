use Rattle.grain_logic.proofs.KeepSame as same
use Rattle.grain_logic.proofs.laws.counters_keep_same.Goals as goal

pub returns : goal.returns
returns c = same.counters_keep_same
