use Rattle.std.proofs.Common.{◌≡◌, take, map}
use Rattle.tenant_accounts.specs.Sends.{send_of, sent_by}
use Rattle.tenant_accounts.proofs.account.sent_by.Given as goal

-- the calls so far
abbrev pub invariant-loop-target : goal.invariant-loop-target
invariant-loop-target l = map send_of l.calls.items ≡ sent_by l.source (take l.target-index l.sends)
