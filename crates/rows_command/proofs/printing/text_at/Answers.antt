use Rattle.command_parts.specs.declared.failure.Cause.{Cause}
use Rattle.std.proofs.Common.{IfErr, List, subst, sym, ℕ}
use Rattle.std.specs.Prelude.{option_map}
use Rattle.std.proofs.KnownBytes.{Keeps-refl}
use Rattle.rows_command.specs.Rows.{RowsFailBy}
use Rattle.rows_command.specs.inside.Reading.{IsReadingFault}
use Rattle.rows_command.proofs.Prints.{listed, none_read, not_read}
use Rattle.rows_command.proofs.printing.text_at.Goals as goal

pub returns-in-Ok-clause-lists : goal.returns-in-Ok-clause-lists
returns-in-Ok-clause-lists g c =
    let may_hold = g.F.WholeFiles.may_hold c.args.files.now c.args.path.now in
    listed may_hold (option_map (λ name. name.now) c.args.tenant) c.as_slice.result.now c.text_of.result (subst may_hold (sym c.as_slice.ensures.value) c.in-Ok.ensures.held) c.text_of.ensures.lists

pub returns-in-Ok-clause-fault : goal.returns-in-Ok-clause-fault
returns-in-Ok-clause-fault g c before writing =
    let may_hold = g.F.WholeFiles.may_hold c.args.files.now c.args.path.now in
    let may_fail = g.F.WholeFiles.may_fail c.args.files.now c.args.path.now in
    none_read may_hold may_fail (option_map (λ name. name.now) c.args.tenant) c.in-Ok.bytes.items c.in-Ok.ensures.held before writing c.text_of.result
    (subst (λ (bytes : List ℕ). IfErr c.text_of.result (λ why. IsReadingFault bytes why)) c.as_slice.ensures.value c.text_of.ensures.fault)

pub returns-in-Err-clause-fault : goal.returns-in-Err-clause-fault
returns-in-Err-clause-fault g c before writing =
    let may_hold = g.F.WholeFiles.may_hold c.args.files.now c.args.path.now in
    let may_fail = g.F.WholeFiles.may_fail c.args.files.now c.args.path.now in
    let tenant = option_map (λ name. name.now) c.args.tenant in
    subst (λ (why : Cause). RowsFailBy may_hold may_fail tenant why before before writing) (sym c.cause_of_file.ensures)
    (not_read (λ why. RowsFailBy may_hold may_fail tenant why before before writing) may_fail c.in-Err.fault c.in-Err.ensures.fault (Keeps-refl before) (λ fails. (fails, Keeps-refl before))
    (λ fails. (fails, Keeps-refl before)))
