use Rattle.std.proofs.Common.{◌≡◌, map, take}
use Rattle.tenant_accounts.specs.Kept.{own_sends}
use Rattle.tenant_accounts.specs.Sends.{send_of}
use Rattle.tenant_accounts.proofs.account.resuming.own_sends.Given as goal

-- what the tenant's own grains sent of the calls so far
abbrev pub invariant-loop-sent : goal.invariant-loop-sent
invariant-loop-sent l = map send_of l.own.items ≡ own_sends l.tenant (map send_of (take l.sent-index l.sends))
