use Rattle.std.proofs.lemmas.Result.{err_from_is_err_and}
use Rattle.std.proofs.Common.{List, Option, refl, subst, ℕ}
use Rattle.std.specs.Prelude.{option_map}
use Rattle.command_parts.specs.Files.{claims}
use Rattle.command_parts.specs.Setups.{Start}
use Rattle.line_commands.specs.Answering.{WritesJournalsAtMost}
use Rattle.silo_program.proofs.TaskLemmas.{answered_left, answering_refused}
use Rattle.silo_program.proofs.program.answer_tenants.Goals as goal

pub returns-in_err-named-clause-fault : goal.returns-in_err-named-clause-fault
returns-in_err-named-clause-fault g c words asked =
    let p = err_from_is_err_and c.from_residual.result c.from_residual.ensures.1 in
    rw (p.1, p.2) (answering_refused words _ _ _ _ _ _ _ refl _ _ _ asked c.in_err-named.field-0.0 c.in_err-named.ensures.fault)

pub returns-in-Ok-clause-journal : goal.returns-in-Ok-clause-journal
returns-in-Ok-clause-journal g c words log asked =
    let files = claims g.F.WholeFiles.may_hold g.F.WholeFiles.may_fail g.F.WholeFiles.may_leave c.args.files.now c.answer_input.new.files in
    let path : Option (List ℕ) = option_map (λ text. text.now) c.args.journal in
    let from = g.R.Read.remaining c.args.input.now.reader in
    answered_left words files log from _ _ _ _ _ _ _ _ asked c.in_ok-named.ensures.named
    (subst (λ (s : Start). WritesJournalsAtMost s c.args.sends files path from) c.start_of-start.ensures.starts c.answer_input.ensures.journal)

pub returns-in-Err-clause-journal : goal.returns-in-Err-clause-journal
returns-in-Err-clause-journal g c words log asked =
    let files = claims g.F.WholeFiles.may_hold g.F.WholeFiles.may_fail g.F.WholeFiles.may_leave c.args.files.now c.answer_input.new.files in
    let path : Option (List ℕ) = option_map (λ text. text.now) c.args.journal in
    let from = g.R.Read.remaining c.args.input.now.reader in
    answered_left words files log from _ _ _ _ _ _ _ _ asked c.in_ok-named.ensures.named
    (subst (λ (s : Start). WritesJournalsAtMost s c.args.sends files path from) c.start_of-start.ensures.starts c.answer_input.ensures.journal)
