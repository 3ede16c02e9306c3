use Rattle.std.proofs.Common.{take}
use Rattle.tenant_audit.specs.inside.Owners.{Gains, reply_owners}
use Rattle.tenant_audit.proofs.tenants.add_replies.Given as goal

abbrev pub invariant-replies : goal.invariant-replies
invariant-replies l = Gains l.initial.owners.keys (reply_owners (take l.reply-index l.replies)) l.owners.keys
