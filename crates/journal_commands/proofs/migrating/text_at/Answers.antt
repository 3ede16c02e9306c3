use Rattle.command_parts.specs.declared.failure.Cause.{Cause}
use Rattle.std.proofs.Common.{IfErr, List, subst, sym, ℕ}
use Rattle.journal_commands.specs.Migrating.{IsMigrationFault, MigrationFailsBy}
use Rattle.journal_commands.specs.Auditing.{IsReadingFault}
use Rattle.std.proofs.KnownBytes.{Keeps-refl}
use Rattle.journal_commands.proofs.AuditLemmas.{none_read, not_read}
use Rattle.journal_commands.proofs.MigrationLemmas.{migrated_to}
use Rattle.journal_commands.proofs.migrating.text_at.Goals as goal

pub returns-in-Ok-clause-migrated : goal.returns-in-Ok-clause-migrated
returns-in-Ok-clause-migrated g c =
    let may_hold = g.F.WholeFiles.may_hold c.args.files.now c.args.path.now in
    migrated_to may_hold c.as_slice.result.now c.text_of.result (subst may_hold (sym c.as_slice.ensures.value) c.in-Ok.ensures.held) c.text_of.ensures.migrated c.text_of.ensures.known

pub returns-in-Ok-clause-fault : goal.returns-in-Ok-clause-fault
returns-in-Ok-clause-fault g c before writing =
    let may_hold = g.F.WholeFiles.may_hold c.args.files.now c.args.path.now in
    let may_fail = g.F.WholeFiles.may_fail c.args.files.now c.args.path.now in
    none_read may_hold c.in-Ok.bytes.items c.in-Ok.ensures.held before (λ why. IsMigrationFault may_hold may_fail why before before writing) (Keeps-refl before) (λ text refuses. refuses) c.text_of.result
    (subst (λ (bytes : List ℕ). IfErr c.text_of.result (λ why. IsReadingFault bytes why)) c.as_slice.ensures.value c.text_of.ensures.fault)

pub returns-in-Err-clause-fault : goal.returns-in-Err-clause-fault
returns-in-Err-clause-fault g c before writing =
    let may_hold = g.F.WholeFiles.may_hold c.args.files.now c.args.path.now in
    let may_fail = g.F.WholeFiles.may_fail c.args.files.now c.args.path.now in
    subst (λ (why : Cause). MigrationFailsBy may_hold may_fail why before before writing) (sym c.cause_of_file.ensures)
    (not_read (λ why. MigrationFailsBy may_hold may_fail why before before writing) may_fail c.in-Err.fault c.in-Err.ensures.fault (Keeps-refl before) (λ fails. (fails, Keeps-refl before))
    (λ fails. (fails, Keeps-refl before)))
