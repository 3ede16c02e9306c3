use Rattle.std.specs.Prelude.{option_map}
use Rattle.checkpoint_text.specs.Answers.{checkpoint_in}
use Rattle.rows_command.proofs.Points.{opening_none}
use Rattle.rows_command.proofs.reading.listing_of.Goals as goal

pub returns-in_err-journal : goal.returns-in_err-journal
returns-in_err-journal c =
    opening_none c.args.bytes.now c.as_bytes.result.now (option_map (λ name. name.now) c.args.tenant) (checkpoint_in c.in_ok-checkpoint.checkpoint) c.from_residual-in_err-journal.result _ c.in_ok-checkpoint.ensures.2
    c.from_residual-in_err-journal.ensures.1 c.as_bytes.ensures.value c.in_err-journal.ensures
