use Rattle.std.proofs.Common.{rules}
use Rattle.grain_id.specs.Reading.{cut_at}
use Rattle.journal_text.proofs.fields.split.Goals as goal

pub returns : goal.returns
unfolding cut_at
returns c = search rules
