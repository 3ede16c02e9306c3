use Rattle.std.proofs.Common.{sym, true≢false}
use Rattle.log_text.proofs.head.is_log.Goals as goal

pub returns-in-None : goal.returns-in-None
returns-in-None c = (λ h. absurd (true≢false (sym h)), λ p. absurd (c.in-None.ensures p.0 p.1))
