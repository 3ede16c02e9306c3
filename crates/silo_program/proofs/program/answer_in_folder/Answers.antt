use Rattle.std.proofs.lemmas.Result.{err_from_is_err_and}
use Rattle.std.proofs.Common.{refl, subst, true, ◌≡◌}
use Rattle.data_command.specs.Data.{log_claims}
use Rattle.data_command.specs.Folder.{FolderFailsBy, FolderLasts}
use Rattle.command_parts.specs.Setups.{Start}
use Rattle.command_parts.specs.Files.{claims}
use Rattle.silo_program.proofs.SeedLemmas.{not_numbered}
use Rattle.silo_program.proofs.TaskLemmas.{folder_failed, folder_left, folder_refused}
use Rattle.silo_program.proofs.program.answer_in_folder.Goals as goal

pub returns-in_err-named-clause-fault : goal.returns-in_err-named-clause-fault
returns-in_err-named-clause-fault g c words asked =
    let p = err_from_is_err_and c.from_residual.result c.from_residual.ensures.1 in
    let files = claims g.F.WholeFiles.may_hold g.F.WholeFiles.may_fail g.F.WholeFiles.may_leave c.args.files.now c.args.files.now in
    rw (p.1, p.2) (folder_refused words _ _ _ _ _ _ files refl _ _ _ _ _ asked c.in_err-named.field-0.0 c.in_err-named.ensures.fault)

pub returns-in-Err-clause-fault : goal.returns-in-Err-clause-fault
returns-in-Err-clause-fault g c words asked =
    let files = claims g.F.WholeFiles.may_hold g.F.WholeFiles.may_fail g.F.WholeFiles.may_leave c.args.files.now c.args.files.now in
    not_numbered words files _ _ _ _ _ _ _ _ _ _ _ c.in-Err.why asked c.in-Err.ensures

pub returns-in-Err-answer_data-clause-fault : goal.returns-in-Err-answer_data-clause-fault
returns-in-Err-answer_data-clause-fault g c words asked =
    let files = claims g.F.WholeFiles.may_hold g.F.WholeFiles.may_fail g.F.WholeFiles.may_leave c.args.files.now c.answer_data.new.files in
    let log = log_claims g.F.LogHost.begun g.F.LogHost.acts g.F.LogHost.past g.F.LogHost.failed c.args.files.now c.answer_data.new.files in
    let from = g.R.Read.remaining c.args.input.now.reader in
    let left = g.R.Read.remaining c.answer_data.new.input.reader in
    let before = g.W.Write.contents c.args.output.now.writer in
    let after = g.W.Write.contents c.answer_data.new.output.writer in
    folder_failed words files log from left _ _ _ _ _ _ _ _ before after _ _ asked c.in_ok-named.ensures.named c.in-Err-answer_data.fault _ c.explain_data.ensures
    (subst (λ (s : Start). FolderFailsBy s c.args.task.now.sends log c.in-Err-answer_data.fault from left c.answer_data.new.input.lines before after) c.start_of.ensures.starts c.in-Err-answer_data.ensures.fault)

pub returns-in-Ok-answer_data-clause-journal : goal.returns-in-Ok-answer_data-clause-journal
returns-in-Ok-answer_data-clause-journal g c words asked =
    let files = claims g.F.WholeFiles.may_hold g.F.WholeFiles.may_fail g.F.WholeFiles.may_leave c.args.files.now c.answer_data.new.files in
    let log = log_claims g.F.LogHost.begun g.F.LogHost.acts g.F.LogHost.past g.F.LogHost.failed c.args.files.now c.answer_data.new.files in
    let from = g.R.Read.remaining c.args.input.now.reader in
    let left = g.R.Read.remaining c.answer_data.new.input.reader in
    let sync = c.args.task.now.folder.sync in
    folder_left words files log from left _ _ _ _ sync _ _ _ asked c.in_ok-named.ensures.named
    (subst (λ (s : Start). sync ≡ true → FolderLasts s c.args.task.now.sends log) c.start_of.ensures.starts c.answer_data.ensures.lasts)

pub returns-in-Err-answer_data-clause-journal : goal.returns-in-Err-answer_data-clause-journal
returns-in-Err-answer_data-clause-journal g c words asked =
    let files = claims g.F.WholeFiles.may_hold g.F.WholeFiles.may_fail g.F.WholeFiles.may_leave c.args.files.now c.answer_data.new.files in
    let log = log_claims g.F.LogHost.begun g.F.LogHost.acts g.F.LogHost.past g.F.LogHost.failed c.args.files.now c.answer_data.new.files in
    let from = g.R.Read.remaining c.args.input.now.reader in
    let left = g.R.Read.remaining c.answer_data.new.input.reader in
    let sync = c.args.task.now.folder.sync in
    folder_left words files log from left _ _ _ _ sync _ _ _ asked c.in_ok-named.ensures.named
    (subst (λ (s : Start). sync ≡ true → FolderLasts s c.args.task.now.sends log) c.start_of.ensures.starts c.answer_data.ensures.lasts)
