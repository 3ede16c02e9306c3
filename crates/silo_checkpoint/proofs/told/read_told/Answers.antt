use Rattle.std.proofs.Common.{sym, ◌∙◌, true≢false}
use Rattle.silo_checkpoint.specs.inside.Told.{told_in}
use Rattle.silo_checkpoint.proofs.Journals.{handed, told_not, told_so}
use Rattle.silo_checkpoint.proofs.told.read_told.Goals as goal

pub returns-in_err-journal : goal.returns-in_err-journal
returns-in_err-journal c = handed c.args.bytes.now c.from_residual.result _ c.from_residual.ensures.1 c.in_err-journal.ensures

pub returns-in_ok-copy_of : goal.returns-in_ok-copy_of
returns-in_ok-copy_of c =
    told_so c.args.bytes.now c.in_ok-journal.journal (told_in c.in_ok-copy_of.field-0) c.in_ok-journal.ensures c.in_ok-copy_of.ensures (c.is_opening.ensures.0 c.if-is_opening.true)

pub returns-else-is_opening : goal.returns-else-is_opening
returns-else-is_opening c =
    told_not c.args.bytes.now c.in_ok-journal.journal c.in_ok-journal.ensures (λ is. true≢false (sym (c.is_opening.ensures.1 is) ∙ c.if-is_opening.false))
