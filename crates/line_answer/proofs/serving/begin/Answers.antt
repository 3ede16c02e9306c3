use Rattle.std.proofs.Common.{rules, ◌≡◌, true, sym, ◌∙◌, subst}
use Rattle.silo_event.specs.declared.step.Step.TheVariants.{Begin}
use Rattle.line_answer.specs.Trying.{TakesNow}
use Rattle.line_answer.proofs.Trying.{begun, begins_not}
use Rattle.line_answer.proofs.serving.begin.Goals as goal

pub returns-in_default : goal.returns-in_default
returns-in_default g c = begins_not g.L.GrainLogic.logic c.args.silo.now c.args.grain.now (sym c.first_waiting.ensures ∙ c.in_default.is)

pub returns-then-branch : goal.returns-then-branch
returns-then-branch g c =
    let logic = g.L.GrainLogic.logic in
    let is : c.in_ok-grain.grain ≡ c.args.grain.now = search rules in
    begun logic c.args.silo.now c.take.new.silo c.args.grain.now c.in-Some.number (sym c.first_waiting.ensures ∙ c.in-Some.is)
    (subst (λ q. TakesNow logic c.args.silo.now (Begin q) true c.take.new.silo) is (rw c.if-branch.true at c.in_ok-take.ensures.taken))
