use Rattle.std.proofs.Common.{ap, sym, ◌∙◌, subst, arith}
use Rattle.turn_mailbox.specs.Contents.{KeepsRule, may_begin}
use Rattle.turn_mailbox.proofs.Rule.{allowed, rule-begun}
use Rattle.turn_mailbox.proofs.mailbox.Mailbox.open_front.Goals as goal

pub invariant_of-self-in-Ok : goal.invariant_of-self-in-Ok
invariant_of-self-in-Ok c =
    let inside = c.self.inside in
    let may = allowed inside.turns inside.waiting.items c.pop_front.new.self.items c.in-Some.request c.in-Some.ensures.items (ap may_begin c.self.view_is ∙ c.requires) in
    record {
      within = omega (arith, c.in-Some.ensures.len, c.self.invariant.within);
      reserved_all = rw c.in-Some.ensures.capacity c.self.invariant.reserved_all;
      rule = subst KeepsRule (sym c.in-Ok.ensures.opened) (rule-begun inside.turns c.in-Some.request may);
    }
