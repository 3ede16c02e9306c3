use Rattle.std.proofs.Common.{◌≡◌, length, take}
use Rattle.tenant_accounts.proofs.account.Account.keep.Given as goal

-- the first calls are those that were the first
abbrev pub invariant-loop-self : goal.invariant-loop-self
invariant-loop-self l = record l.self { sends = take l.many l.self.sends } ≡ record l.fn.self { sends = take l.many l.fn.self.sends }

abbrev pub decreases-loop-self : goal.decreases-loop-self
decreases-loop-self l = length l.self.sends
