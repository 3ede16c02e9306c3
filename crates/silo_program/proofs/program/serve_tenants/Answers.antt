use Rattle.silo_program.specs.Ends.{ServesInput}
use Rattle.command_parts.specs.Files.{claims}
use Rattle.std.proofs.lemmas.Result.{err_from_is_err_and}
use Rattle.std.proofs.Common.{List, Option, refl, string_bytes, subst, sym, ℕ, ◌∙◌}
use Rattle.std.specs.Prelude.{option_map}
use Rattle.command_parts.specs.Setups.{Start}
use Rattle.serve_command.specs.Serving.{ServesLanes, WritesJournalAtMost}
use Rattle.silo_program.proofs.TaskLemmas.{files_left, input_served, serving_refused}
use Rattle.serve_command.proofs.ServingLemmas.{not_asked}
use Rattle.silo_program.proofs.program.serve_tenants.Goals as goal

pub returns-in_err-named-clause-fault : goal.returns-in_err-named-clause-fault
returns-in_err-named-clause-fault g c words asked =
    let p = err_from_is_err_and c.from_residual.result c.from_residual.ensures.1 in
    rw (p.1, p.2) (serving_refused words _ _ _ _ _ _ _ refl _ _ _ _ asked c.in_err-named.field-0.0 c.in_err-named.ensures.fault)

pub returns-then-asks_to_tell-clause-journal : goal.returns-then-asks_to_tell-clause-journal
returns-then-asks_to_tell-clause-journal g c words log asked =
    let files = claims g.F.WholeFiles.may_hold g.F.WholeFiles.may_fail g.F.WholeFiles.may_leave c.args.files.now c.serve_lines.new.files in
    let path : Option (List ℕ) = option_map (λ text. text.now) c.args.journal in
    let from = g.R.Read.remaining c.args.input.now.reader in
    let left = g.R.Read.remaining c.serve_lines.new.input.reader in
    files_left words files log from left _ _ _ _ _ _ _ _ asked c.in_ok-named.ensures.named
    (subst (λ (s : Start). WritesJournalAtMost s files path from left) c.start_of-start.ensures.starts c.serve_lines.ensures.journal)

pub returns-else-asks_to_tell-clause-journal : goal.returns-else-asks_to_tell-clause-journal
returns-else-asks_to_tell-clause-journal g c words log asked =
    let files = claims g.F.WholeFiles.may_hold g.F.WholeFiles.may_fail g.F.WholeFiles.may_leave c.args.files.now c.serve_lines.new.files in
    let path : Option (List ℕ) = option_map (λ text. text.now) c.args.journal in
    let from = g.R.Read.remaining c.args.input.now.reader in
    let left = g.R.Read.remaining c.serve_lines.new.input.reader in
    files_left words files log from left _ _ _ _ _ _ _ _ asked c.in_ok-named.ensures.named
    (subst (λ (s : Start). WritesJournalAtMost s files path from left) c.start_of-start.ensures.starts c.serve_lines.ensures.journal)

pub returns-in-Err-clause-journal : goal.returns-in-Err-clause-journal
returns-in-Err-clause-journal g c words log asked =
    let files = claims g.F.WholeFiles.may_hold g.F.WholeFiles.may_fail g.F.WholeFiles.may_leave c.args.files.now c.serve_lines.new.files in
    let path : Option (List ℕ) = option_map (λ text. text.now) c.args.journal in
    let from = g.R.Read.remaining c.args.input.now.reader in
    let left = g.R.Read.remaining c.serve_lines.new.input.reader in
    files_left words files log from left _ _ _ _ _ _ _ _ asked c.in_ok-named.ensures.named
    (subst (λ (s : Start). WritesJournalAtMost s files path from left) c.start_of-start.ensures.starts c.serve_lines.ensures.journal)

pub returns-else-asks_to_tell-clause-ended : goal.returns-else-asks_to_tell-clause-ended
returns-else-asks_to_tell-clause-ended g c words asked =
    let files = claims g.F.WholeFiles.may_hold g.F.WholeFiles.may_fail g.F.WholeFiles.may_leave c.args.files.now c.serve_lines.new.files in
    let from = g.R.Read.remaining c.args.input.now.reader in
    let left = g.R.Read.remaining c.serve_lines.new.input.reader in
    let before = g.W.Write.contents c.args.output.now.writer in
    let after = g.W.Write.contents c.serve_lines.new.output.writer in
    let path : Option (List ℕ) = option_map (λ text. text.now) c.args.journal in
    let telling = c.args.telling in
    let none = not_asked telling (sym c.asks_to_tell.ensures ∙ c.if-asks_to_tell.false) in (
      none,
      subst (λ text. ServesInput words files telling from left before after text) (c.in-Ok.ensures.untold none)
          (input_served words files telling from left before after _ _ _ _ _ _ _ (string_bytes c.in-Ok.text) asked c.in_ok-named.ensures.named
          (subst (λ (s : Start). ServesLanes s files path telling from left before after (string_bytes c.in-Ok.text)) c.start_of-start.ensures.starts c.in-Ok.ensures.served)),
    )
