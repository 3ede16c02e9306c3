use Rattle.hex.proofs.HexLemmas.{decode_of-ok}
use Rattle.journal_text.proofs.fields.parse_bytes.Goals as goal

pub returns-in-Ok-clause-in_range : goal.returns-in-Ok-clause-in_range
returns-in-Ok-clause-in_range c = (decode_of-ok _ _ c.in-Ok.ensures.ok).3
