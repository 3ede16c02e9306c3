use Rattle.std.proofs.KnownBytes.{Keeps-refl}
use Rattle.command_parts.specs.Files.{claims}
use Rattle.std.proofs.Common.{refl, rules}
use Rattle.std.specs.Prelude.{option_map}
use Rattle.silo_words.specs.Words.{texts_of}
use Rattle.silo_program.proofs.TaskLemmas.{answering_faults, ends_shown, migration_faults, rows_faults, serving_faults, stream_faults}
use Rattle.silo_program.proofs.SeedLemmas.{not_seeded}
use Rattle.silo_program.proofs.program.answer.Goals as goal

pub returns-in-Err-clause-ended : goal.returns-in-Err-clause-ended
returns-in-Err-clause-ended g c = ends_shown _ _ _ _ _ _ _ c.explain_words.result (c.explain_words.ensures.shown _ _ c.in-Err.ensures.fault)

pub returns-in-Err-clause-fault : goal.returns-in-Err-clause-fault
returns-in-Err-clause-fault g c = stream_faults _ _ _ _ _ _ _ _ _ refl c.explain_words.result (c.explain_words.ensures.fault _ _ _ c.in-Err.ensures.fault)

pub returns-in-Serve-clause-journal : goal.returns-in-Serve-clause-journal
returns-in-Serve-clause-journal g c = c.serve_tenants.ensures.journal (texts_of c.args.words.now) _ (search rules)

pub returns-in-Serve-clause-fault : goal.returns-in-Serve-clause-fault
returns-in-Serve-clause-fault g c =
    let words = texts_of c.args.words.now in
    let files = claims g.F.WholeFiles.may_hold g.F.WholeFiles.may_fail g.F.WholeFiles.may_leave c.args.files.now c.serve_tenants.new.files in
    serving_faults words files _ _ _ _ _ _ _ c.serve_tenants.result (c.serve_tenants.ensures.fault words (search rules))

pub returns-in-Err-seed_for-clause-fault : goal.returns-in-Err-seed_for-clause-fault
returns-in-Err-seed_for-clause-fault g c =
    let words = texts_of c.args.words.now in
    not_seeded words _ _ _ _ _ _ c.in-Err-seed_for.why (c.in-Err-seed_for.ensures words c.in-Ok.ensures.task)

pub returns-in-Migrate-clause-fault : goal.returns-in-Migrate-clause-fault
returns-in-Migrate-clause-fault g c =
    let words = texts_of c.args.words.now in
    let files = claims g.F.WholeFiles.may_hold g.F.WholeFiles.may_fail g.F.WholeFiles.may_leave c.args.files.now c.args.files.now in
    migration_faults words files _ c.in-Migrate.path.now (search rules) refl _ _ _ _ _ _ (Keeps-refl _) c.migrate_file.result c.migrate_file.ensures.fault

pub returns-in-Answer-default-default-default-default-Some-default-clause-journal : goal.returns-in-Answer-default-default-default-default-Some-default-clause-journal
returns-in-Answer-default-default-default-default-Some-default-clause-journal g c = c.answer_in_folder.ensures.journal (texts_of c.args.words.now) (search rules)

pub returns-in-Answer-default-default-default-default-None-default-clause-journal : goal.returns-in-Answer-default-default-default-default-None-default-clause-journal
returns-in-Answer-default-default-default-default-None-default-clause-journal g c = c.answer_tenants.ensures.journal (texts_of c.args.words.now) _ (search rules)

pub returns-in-Answer-default-default-default-default-None-default-clause-fault : goal.returns-in-Answer-default-default-default-default-None-default-clause-fault
returns-in-Answer-default-default-default-default-None-default-clause-fault g c =
    let words = texts_of c.args.words.now in
    let files = claims g.F.WholeFiles.may_hold g.F.WholeFiles.may_fail g.F.WholeFiles.may_leave c.args.files.now c.answer_tenants.new.files in
    answering_faults words files _ _ _ _ _ _ _ c.answer_tenants.result (c.answer_tenants.ensures.fault words (search rules))

pub returns-clause-fault : goal.returns-clause-fault
returns-clause-fault g c =
    let words = texts_of c.args.words.now in
    let files = claims g.F.WholeFiles.may_hold g.F.WholeFiles.may_fail g.F.WholeFiles.may_leave c.args.files.now c.args.files.now in
    rows_faults words files _ c.in-Rows.folder.now (option_map (λ name. name.now) c.in-Rows.tenant) (search rules) refl _ _ _ _ _ _ (Keeps-refl _) c.print_rows.result c.print_rows.ensures.fault
