use Rattle.line_commands.proofs.AnsweringLemmas.{stops_out}
use Rattle.line_commands.proofs.answering.answer_reader.Goals as goal

pub returns-in-Err-clause-stopped : goal.returns-in-Err-clause-stopped
returns-in-Err-clause-stopped g c =
    stops_out c.args.silo.now.keeps g.L.GrainLogic.logic _ c.args.input.now.lines _ _ _ _ _ c.requires.fresh c.in-Err.why c.answer_lines-done.new.input.lines c.answer_lines-done.new.output.calls _ _ c.flush.ensures.bytes c.in-Err.ensures.err
