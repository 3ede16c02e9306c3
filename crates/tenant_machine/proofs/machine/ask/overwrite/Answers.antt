use Rattle.silo_model.proofs.Common.{◌∙◌, ◌≡◌, Err, Ok, Some, subst, sym}
use Rattle.grain_storage.specs.Answers.{ChangeAnswers}
use Rattle.grain_storage.specs.Rows.{poked}
use Rattle.silo_state.proofs.Asks.{never_stale}
use Rattle.tenant_machine.proofs.machine.ask.overwrite.Goals as goal

pub unreachable-requires-in-Err-Stale : goal.unreachable-requires-in-Err-Stale
unreachable-requires-in-Err-Stale c =
    let content = c.in_ok-content.content in
    let old = c.args.storage.now in
    let answers = subst (λ f. ChangeAnswers (λ version. Some version) (poked old c.args.grain.now content) old 0 (Err f) c.poke.new.self 0) c.in-Err-Stale.field-0-is c.in-Err-Stale.ensures.answers in
    never_stale old c.args.grain.now content c.in-Err-Stale.field-0-0 answers.0

pub returns-in-Ok-clause-answers : goal.returns-in-Ok-clause-answers
returns-in-Ok-clause-answers c =
    let rows = c.args.storage.now in
    let pokes : poked rows c.args.grain.now c.args.state.now ≡ Ok (Some c.in-Ok.version, c.poke.new.self) = (λ i. poked rows c.args.grain.now (sym c.in_ok-content.ensures.cases i)) ∙ c.in-Ok.ensures.answers.0 in
    (Some c.in-Ok.version, pokes, c.decimal_in.ensures)
