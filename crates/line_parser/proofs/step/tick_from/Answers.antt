use Rattle.std.proofs.Common.{Some, refl, sym, ap}
use Rattle.silo_event.specs.declared.step.Step.TheVariants as step
use Rattle.line_parser.specs.Form.{tick_of}
use Rattle.line_parser.proofs.Steps.{counted, not_counted}
use Rattle.line_parser.proofs.step.tick_from.Goals as goal

pub returns-then-members-ne2 : goal.returns-then-members-ne2
unfolding tick_of
returns-then-members-ne2 c l d h = rw (not_counted _ 2 (h.count 2) c.if-members-ne2.true) refl

pub returns-in_err-members : goal.returns-in_err-members
unfolding tick_of
returns-in_err-members c l d h = rw (counted _ 2 (h.count 2) c.if-members-ne2.false, h.moment, c.in_err-members.was) (sym c.from_residual.ensures)

-- a slot's number is a moment
pub returns-in_err-now : goal.returns-in_err-now
returns-in_err-now c l d h = absurd (c.in_err-now.ensures (rw c.in_ok-members.was at h.within))

pub returns : goal.returns
unfolding tick_of
returns c l d h = rw (counted _ 2 (h.count 2) c.if-members-ne2.false, h.moment, c.in_ok-members.was) (ap (λ n. Some (step.Tick n)) (sym c.in_ok-now.ensures.1))
