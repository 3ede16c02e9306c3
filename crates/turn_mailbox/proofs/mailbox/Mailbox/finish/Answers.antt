use Rattle.std.proofs.Common.{◌≡◌, None, sym, ◌∙◌, subst}
use Rattle.std.specs.Cmp.{nat_cmp_total}
use Rattle.std.specs.FinMap as map
use Rattle.std.specs.FinMap.{nat_cmp-IsAntisymmetric}
use Rattle.finite_maps.proofs.Maps as maps
use Rattle.turn_mailbox.specs.Contents.{KeepsRule}
use Rattle.turn_mailbox.proofs.Rule.{rule-removed}
use Rattle.turn_mailbox.proofs.mailbox.Mailbox.finish.Goals as goal

pub invariant_of-self : goal.invariant_of-self
invariant_of-self c = record {
  within = c.self.invariant.within;
  reserved_all = c.self.invariant.reserved_all;
  rule = subst KeepsRule (sym c.remove.ensures.removed) (rule-removed c.self.inside.turns c.args.number c.self.invariant.rule);
}

pub returns-in_default : goal.returns-in_default
returns-in_default c =
    let inside = c.self.inside in
    let none : map.get inside.turns c.args.number ≡ None = sym c.remove.ensures.found ∙ c.in_default.is in
    let same = c.remove.ensures.removed ∙ maps.remove-absent nat_cmp_total nat_cmp-IsAntisymmetric inside.turns c.args.number none in
    rw (← c.self.view_is) (none, λ i. record { waiting = inside.waiting.items; opened = same i; capacity = inside.capacity })

pub invariant_of-self-2 : goal.invariant_of-self-2
invariant_of-self-2 c = record {
  within = c.self.invariant.within;
  reserved_all = c.self.invariant.reserved_all;
  rule = subst KeepsRule (sym c.remove.ensures.removed) (rule-removed c.self.inside.turns c.args.number c.self.invariant.rule);
}
