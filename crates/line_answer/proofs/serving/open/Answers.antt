use Rattle.std.proofs.Common.{Bool, subst}
use Rattle.std.proofs.lemmas.Result.{IfOk-weaker}
use Rattle.answer_model.specs.Answering.{raising, whole_stepper}
use Rattle.line_answer.specs.Trying.{Tries}
use Rattle.line_answer.proofs.Trying.{opened_at_once}
use Rattle.line_answer.proofs.serving.open.Goals as goal

pub returns-in-Some : goal.returns-in-Some
returns-in-Some g c =
    opened_at_once g.L.GrainLogic.logic c.args.silo.now c.begin.new.silo c.args.grain.now c.in-Some.turn (rw c.in-Some.is at c.in_ok-turn.ensures)

pub returns : goal.returns
returns g c =
    let logic = g.L.GrainLogic.logic in
    let none = rw c.in_default.is at c.in_ok-turn.ensures in
    let raised = subst (λ h. (failed : Bool) × Tries logic h (raising (whole_stepper logic) h.whole c.args.grain.now failed) c.raise.new.silo) none.1 c.in_ok-raise.ensures in
    IfOk-weaker c.begin-2.result _ _ (λ turn begins. (c.raise.new.silo, raised, begins)) c.begin-2.ensures
