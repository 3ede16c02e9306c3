use Rattle.request_codec.proofs.OneSpelling.{no_prefix_law}
use Rattle.request_codec.proofs.laws.no_prefix.Goals as goal

pub returns : goal.returns
returns c = λ v w bytes more spells_v spells_w. (no_prefix_law v w bytes more spells_v spells_w).0
