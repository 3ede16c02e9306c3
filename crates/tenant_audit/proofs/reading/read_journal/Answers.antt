use Rattle.std.proofs.Common.{sym, true≢false, ◌∙◌}
use Rattle.tenant_audit.proofs.Versions.{known_read}
use Rattle.tenant_audit.proofs.reading.read_journal.Goals as goal

pub returns : goal.returns
returns c =
    known_read c.args.bytes.now c.read_journal.result (λ newer. true≢false (sym (c.in_ok-newer.ensures.1 newer) ∙ c.if-newer.false)) c.read_journal.ensures
