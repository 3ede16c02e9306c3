use Rattle.std.proofs.Common.{◌≡◌, rules}
use Rattle.tenant_audit.proofs.Recorded.{same_ok}
use Rattle.tenant_audit.proofs.replies.is_record_of.Goals as goal

pub returns-in-Ok-Ok : goal.returns-in-Ok-Ok
returns-in-Ok-Ok c =
    let same : c.args.recorded.now.recipient ≡ c.args.reply.now.recipient = search rules in
    same_ok c.args.recorded.now c.args.reply.now _ _ c.eq.result same c.in-Ok-Ok.is-0 c.in-Ok-Ok.is-1 c.eq.ensures.by_value
