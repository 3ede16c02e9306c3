use Rattle.command_parts.specs.Setups.{starting, version_of}
use Rattle.line_commands.proofs.EndLemmas.{StopsFrom-kept, steps_not_out}
use Rattle.line_commands.proofs.stepping.answer_steps.Goals as goal

pub returns-in-Ok-clause-stopped : goal.returns-in-Ok-clause-stopped
returns-in-Ok-clause-stopped g c =
    let start = starting (version_of g.L.GrainLogic.logic c.args.start.kinds) c.args.start.tenants c.args.start.age c.args.start.ages in
    steps_not_out start _ _ _ _ _ _ _ c.flush.result c.flush.ensures.fault c.flush.ensures.failed c.flush.ensures.kept c.in-Ok.ensures.answered

pub returns-in-Err-clause-stopped : goal.returns-in-Err-clause-stopped
returns-in-Err-clause-stopped g c =
    let start = starting (version_of g.L.GrainLogic.logic c.args.start.kinds) c.args.start.tenants c.args.start.age c.args.start.ages in
    StopsFrom-kept start _ _ _ _ _ _ _ _ c.flush-in-Err.ensures.bytes c.in-Err.ensures.stopped
