use Rattle.std.specs.Prelude.{Ok}
use Rattle.silo_event.specs.declared.step.Answer.TheVariants.{Done, Failed}
use Rattle.silo_core.specs.History.{Answered}
use Rattle.line_protocol.proofs.StepTexts.{step_taken}
use Rattle.line_protocol.proofs.answers.answer_step.Goals as goal

pub returns-in-Ok-Done-clause-err : goal.returns-in-Ok-Done-clause-err
returns-in-Ok-Done-clause-err g c =
    let logic = g.L.GrainLogic.logic in
    let taken : Answered logic c.args.silo.now c.args.step (Ok Done) c.apply_in.new.self = rw c.in-Ok-Done.field-0-is at c.in-Ok-Done.ensures.answered in
    step_taken logic c.args.silo.now c.apply_in.new.self c.args.step c.push_replies.result Done taken

pub returns-in-Ok-Failed-clause-err : goal.returns-in-Ok-Failed-clause-err
returns-in-Ok-Failed-clause-err g c =
    let logic = g.L.GrainLogic.logic in
    let taken : Answered logic c.args.silo.now c.args.step (Ok Failed) c.apply_in.new.self = rw c.in-Ok-Failed.field-0-is at c.in-Ok-Failed.ensures.answered in
    step_taken logic c.args.silo.now c.apply_in.new.self c.args.step c.push_replies-in-Ok-Failed.result Failed taken
