use Rattle.command_parts.specs.Setups.{starting, version_of}
use Rattle.std.proofs.Common.{sym}
use Rattle.line_commands.proofs.EndLemmas.{steps_answered, steps_not_begun, steps_stopped}
use Rattle.line_commands.proofs.stepping.answer_lines.Goals as goal

pub returns-in-Ok-done-clause-answered : goal.returns-in-Ok-done-clause-answered
returns-in-Ok-done-clause-answered g c =
    let start = starting (version_of g.L.GrainLogic.logic c.args.start.kinds) c.args.start.tenants c.args.start.age c.args.start.ages in
    steps_answered start _ c.in-Ok.ensures.opening _ _ c.args.input.now.lines _ _ _ _ c.requires.fresh (sym c.storage.ensures.failures) c.in-Ok-done.ensures.ok

pub returns-in-Err-clause-stopped : goal.returns-in-Err-clause-stopped
returns-in-Err-clause-stopped g c =
    let start = starting (version_of g.L.GrainLogic.logic c.args.start.kinds) c.args.start.tenants c.args.start.age c.args.start.ages in
    steps_stopped start _ c.in-Ok.ensures.opening _ c.args.input.now.lines _ _ _ _ _ _ _ c.requires.fresh (sym c.storage.ensures.failures) c.in-Err.ensures.err

pub returns-in_default-clause-stopped : goal.returns-in_default-clause-stopped
returns-in_default-clause-stopped g c =
    let start = starting (version_of g.L.GrainLogic.logic c.args.start.kinds) c.args.start.tenants c.args.start.age c.args.start.ages in
    steps_not_begun start (g.R.Read.remaining c.args.input.now.reader) (g.W.Write.contents c.args.output.now.writer) c.args.input.now.lines c.args.output.now.calls c.requires.fresh
