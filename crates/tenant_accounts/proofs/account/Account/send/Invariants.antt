use Rattle.std.proofs.Common.{◌≡◌, ◌≤◌, ◌++◌, length, map, take}
use Rattle.tenant_accounts.specs.Sends.{send_of}
use Rattle.tenant_accounts.proofs.account.Account.send.Given as goal

-- what is sent and what is left are all, behind what was sent before
abbrev pub invariant-loop-one : goal.invariant-loop-one
invariant-loop-one l = record {
  long : l.before ≤ length l.self.sends;
  kept : record l.self { sends = take l.before l.self.sends } ≡ l.fn.self;
  all : record l.self { sends = l.self.sends ++ map send_of l.sent.items } ≡ record l.fn.self { sends = l.fn.self.sends ++ map send_of l.fn.sent.items };
}

abbrev pub decreases-loop-one : goal.decreases-loop-one
decreases-loop-one l = length l.sent.items
