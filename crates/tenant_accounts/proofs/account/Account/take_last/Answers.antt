use Rattle.std.proofs.Common.{ℕ, ◌-◌, ◌≡◌, arith}
use Rattle.tenant_accounts.specs.declared.account.Sent.{Sent}
use Rattle.tenant_accounts.specs.Sends.{sent_bytes}
use Rattle.tenant_accounts.proofs.SentBytes.{bytes_without_last}
use Rattle.tenant_accounts.proofs.Takes.{last_out, shown}
use Rattle.tenant_accounts.proofs.account.Account.take_last.Goals as goal

pub overflow_sub-self : goal.overflow_sub-self
overflow_sub-self c =
    let inside = c.self.inside in
    let whole = bytes_without_last inside.sends.entries inside.bytes c.self.invariant.2 c.pop_last.new.self.entries (c.in-Some.field-0-0, c.in-Some.sent) c.in-Some.ensures.removal in
    omega (arith, whole, c.message_bytes.ensures)

pub invariant_of-self : goal.invariant_of-self
invariant_of-self c =
    let inside = c.self.inside in
    let left = c.pop_last.new.self.entries in
    let last : ℕ × Sent = (c.in-Some.field-0-0, c.in-Some.sent) in
    let whole = bytes_without_last inside.sends.entries inside.bytes c.self.invariant.2 left last c.in-Some.ensures.removal in
    let fewer : inside.bytes - c.message_bytes.result ≡ sent_bytes (shown left) = omega (arith, whole, c.message_bytes.ensures) in (
      c.self.invariant.0,
      last_out inside.sends.entries inside.index inside.next c.self.invariant.1 c.take_last.new.index left last c.take_last.result c.in-Some.ensures.removal c.take_last.ensures.rest c.take_last.ensures.none,
      fewer,
    )
