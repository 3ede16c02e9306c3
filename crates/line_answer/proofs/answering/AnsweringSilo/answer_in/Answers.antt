use Rattle.std.proofs.Common.{rules}
use Rattle.silo_model.specs.Journal.{LeadsTo}
use Rattle.answer_model.specs.Idle.{AllIdle}
use Rattle.line_answer.specs.Trying.{AnswersBy}
use Rattle.line_answer.proofs.Asked.{told_after}
use Rattle.line_answer.proofs.answering.AnsweringSilo.answer_in.Goals as goal

pub returns-clause-told : goal.returns-clause-told
returns-clause-told g c =
    let logic = g.L.GrainLogic.logic in
    let old = c.args.self.now.history in
    let leads : LeadsTo logic old.setup old.journal old.whole = search rules in
    let idle : AllIdle old.whole.entries = search rules in
    let taken = c.in_ok-taken.taken in
    let answers : AnswersBy logic c.args.most old c.args.step taken.done taken.memory c.answer_step.new.silo = search rules in
    told_after logic c.args.most old c.answer_step.new.silo c.args.step taken.done leads idle c.requires.asked taken.memory answers
