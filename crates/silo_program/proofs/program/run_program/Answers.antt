use Rattle.std.proofs.Common.{◌∙◌, sym}
use Rattle.silo_program.proofs.FaultLemmas.{ends_well, failed_by, refused_by, unread_by, untouched_by}
use Rattle.silo_program.proofs.TaskLemmas.{untouched}
use Rattle.silo_program.proofs.program.run_program.Goals as goal

pub returns-in-Ok-clause-files : goal.returns-in-Ok-clause-files
returns-in-Ok-clause-files g c never none = untouched _ _ _ _ _ c.answer.ensures.journal never none

pub returns-in-Err-clause-files : goal.returns-in-Err-clause-files
returns-in-Err-clause-files g c never none = untouched _ _ _ _ _ c.answer.ensures.journal never none

pub returns-in-Err-clause-failed : goal.returns-in-Err-clause-failed
returns-in-Err-clause-failed g c one = failed_by _ _ _ _ _ _ _ _ _ _ _ _ c.in-Err.fault (sym c.tell.ensures.status ∙ one) c.in-Err.ensures.fault c.tell.ensures.told

pub returns-in-Err-clause-refused : goal.returns-in-Err-clause-refused
returns-in-Err-clause-refused g c two = refused_by _ _ _ _ _ _ _ _ _ _ _ _ c.in-Err.fault (sym c.tell.ensures.status ∙ two) c.in-Err.ensures.fault c.tell.ensures.told

pub returns-in-Ok-clause-well : goal.returns-in-Ok-clause-well
returns-in-Ok-clause-well g c zero = ends_well c.in-Ok.end _ _ _ _ _ _ _ _ _ _ (sym c.tell_end.ensures.status ∙ zero) c.in-Ok.ensures.ended c.tell_end.ensures.told

pub returns-in-Err-clause-untouched : goal.returns-in-Err-clause-untouched
returns-in-Err-clause-untouched g c two none = untouched_by _ _ _ _ _ _ _ _ _ c.in-Err.fault (sym c.tell.ensures.status ∙ two) c.in-Err.ensures.fault none

pub returns-in-Err-clause-no_journal : goal.returns-in-Err-clause-no_journal
returns-in-Err-clause-no_journal g c four = unread_by _ _ _ _ _ _ _ _ _ _ _ _ c.in-Err.fault (sym c.tell.ensures.status ∙ four) c.in-Err.ensures.fault c.tell.ensures.told
