use Rattle.checkpoint_text.specs.Answers.{checkpoint_in}
use Rattle.silo_checkpoint.specs.inside.Told.{told_in}
use Rattle.silo_checkpoint.proofs.Journals.{counted_so, told_none}
use Rattle.silo_checkpoint.proofs.Listed.{counted_versions, listed_ascend}
use Rattle.silo_checkpoint.proofs.reader.read_saved.Goals as goal

pub returns-in_err-told-clause-read : goal.returns-in_err-told-clause-read
returns-in_err-told-clause-read c =
    told_none c.args.bytes.now c.as_bytes.result.now (checkpoint_in c.in_ok-checkpoint.checkpoint) c.from_residual-in_err-told.result _ c.in_ok-checkpoint.ensures.2 c.from_residual-in_err-told.ensures.1 c.as_bytes.ensures.value c.in_err-told.ensures

pub returns-clause-rows : goal.returns-clause-rows
returns-clause-rows c =
    let rows = c.in_ok-told.told.rows.items in
    (listed_ascend rows c.in_ok-told.ensures.1, counted_versions rows (counted_so _ (told_in c.in_ok-told.told) c.in_ok-told.ensures.0))
