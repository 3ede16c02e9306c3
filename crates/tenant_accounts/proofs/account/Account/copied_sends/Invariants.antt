use Rattle.std.proofs.Common.{◌≡◌, ◌++◌, map}
use Rattle.tenant_accounts.specs.Sends.{send_of}
use Rattle.tenant_accounts.proofs.account.Account.copied_sends.Given as goal

-- those so far, and then those that are left
abbrev pub invariant-loop-sent : goal.invariant-loop-sent
invariant-loop-sent l = map send_of l.calls.items ++ map (λ e. send_of e.1) l.sent-iterator ≡ map (λ e. send_of e.1) l.initial.sent-iterator
