use Rattle.std.proofs.Common.{OnErr, sym, subst, ◌∙◌}
use Rattle.line_protocol.specs.LineRuns.{MayTake}
use Rattle.line_parser.specs.declared.line.Line.{Line}
use Rattle.line_protocol.proofs.answers.answer_line.Goals as goal

pub returns-in-Step-clause-err : goal.returns-in-Step-clause-err
returns-in-Step-clause-err g c =
    subst (λ (said : Line). OnErr c.answer_step.result (MayTake g.L.GrainLogic.logic c.args.silo.now said c.answer_step.new.silo)) (sym c.in-Step.is ∙ c.in_ok-read_line.ensures) c.answer_step.ensures.err
