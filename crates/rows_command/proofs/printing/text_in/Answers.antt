use Rattle.std.proofs.Common.{IfErr, IfOk, List, subst, ℕ, ◌∙◌}
use Rattle.std.specs.Prelude.{option_map, string_bytes}
use Rattle.std.proofs.KnownBytes.{Keeps-refl}
use Rattle.rows_command.specs.Rows.{IsRowsFault, MayList}
use Rattle.rows_command.proofs.printing.text_in.Goals as goal

pub returns-in-Ok-clause-lists : goal.returns-in-Ok-clause-lists
returns-in-Ok-clause-lists g c =
    let may_hold = g.F.WholeFiles.may_hold c.args.files.now in
    let tenant = option_map (λ name. name.now) c.args.tenant in
    subst (λ (path : List ℕ). IfOk c.text_at.result (λ text. MayList (may_hold path) tenant (string_bytes text))) (c.as_str.ensures.value ∙ c.in-Ok.ensures) c.text_at.ensures.lists

pub returns-in-Ok-clause-fault : goal.returns-in-Ok-clause-fault
returns-in-Ok-clause-fault g c before writing =
    let may_hold = g.F.WholeFiles.may_hold c.args.files.now in
    let may_fail = g.F.WholeFiles.may_fail c.args.files.now in
    let tenant = option_map (λ name. name.now) c.args.tenant in
    subst (λ (path : List ℕ). IfErr c.text_at.result (λ why. IsRowsFault (may_hold path) (may_fail path) tenant why before before writing)) (c.as_str.ensures.value ∙ c.in-Ok.ensures)
    (c.text_at.ensures.fault before writing)

pub returns-in-Err-clause-fault : goal.returns-in-Err-clause-fault
returns-in-Err-clause-fault g c before writing = Keeps-refl before
