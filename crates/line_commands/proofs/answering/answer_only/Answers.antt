use Rattle.std.proofs.Common.{◌∙◌}
use Rattle.command_parts.specs.Files.{claims}
use Rattle.command_parts.specs.Setups.{starting, version_of}
use Rattle.line_commands.proofs.AnsweringLemmas.{only_answered, only_fails, opens}
use Rattle.line_commands.proofs.answering.answer_only.Goals as goal

pub returns-in-Ok-done-clause-answered : goal.returns-in-Ok-done-clause-answered
returns-in-Ok-done-clause-answered g c =
    let start = starting (version_of g.L.GrainLogic.logic c.args.start.kinds) c.args.start.tenants c.args.start.age c.args.start.ages in
    let is = c.drop_history.ensures.history ∙ opens _ c.in-Ok.silo.history c.in-Ok.ensures.setup c.in-Ok.ensures.opening c.in-Ok.ensures.failures in
    only_answered start c.args.sends c.drop_history.new.self.keeps c.drop_history.ensures.keeps c.drop_history.new.self.history c.answer_reader-done.new.silo.history
    is c.answer_reader-done.ensures.failures _ _ _ _ _ c.in-Ok-done.ensures.answered

pub returns-in-Err-clause-fault : goal.returns-in-Err-clause-fault
returns-in-Err-clause-fault g c =
    let start = starting (version_of g.L.GrainLogic.logic c.args.start.kinds) c.args.start.tenants c.args.start.age c.args.start.ages in
    let is = c.drop_history.ensures.history ∙ opens _ c.in-Ok.silo.history c.in-Ok.ensures.setup c.in-Ok.ensures.opening c.in-Ok.ensures.failures in
    let files = claims g.F.WholeFiles.may_hold g.F.WholeFiles.may_fail g.F.WholeFiles.may_leave c.args.files.now c.args.files.now in
    only_fails start c.args.sends c.drop_history.new.self.keeps c.drop_history.ensures.keeps c.drop_history.new.self.history c.answer_reader-done.new.silo.history
    is c.answer_reader-done.ensures.failures (g.R.Read.remaining c.answer_reader-done.new.input.reader) (g.W.Write.contents c.args.output.now.writer)
    (g.W.Write.contents c.answer_reader-done.new.output.writer) files c.answer_reader-done.new.input.lines c.answer_reader-done.new.output.calls
    c.in-Err.why c.cause_of.result (g.R.Read.remaining c.args.input.now.reader) c.cause_of.ensures c.in-Err.ensures.stopped
