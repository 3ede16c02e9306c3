use Rattle.std.proofs.Common.{sym, subst, arith}
use Rattle.turn_mailbox.specs.Contents.{KeepsRule}
use Rattle.turn_mailbox.proofs.Rule.{rule-none}
use Rattle.turn_mailbox.proofs.mailbox.Mailbox.new.Goals as goal

pub invariant_of-result : goal.invariant_of-result
invariant_of-result c = record {
  within = rw c.in_ok-with_capacity.ensures.len (omega arith);
  reserved_all = c.in_ok-with_capacity.ensures.capacity;
  rule = subst KeepsRule (sym c.new.ensures) rule-none;
}
