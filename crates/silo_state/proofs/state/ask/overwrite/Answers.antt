use Rattle.std.proofs.Common.{◌≡◌, Some, sym, ◌∙◌, subst}
use Rattle.std.specs.Prelude.{Ok, Err}
use Rattle.grain_storage.specs.Answers.{ChangeAnswers}
use Rattle.grain_storage.specs.Rows.{poked}
use Rattle.silo_state.proofs.Asks.{never_stale}
use Rattle.silo_state.proofs.state.ask.overwrite.Goals as goal

pub unreachable-requires : goal.unreachable-requires
unreachable-requires g c =
    let rows = g.S.GrainStorage.rows in
    let failed = g.S.GrainStorage.failed in
    let content = c.in_ok-content.content in
    let old = c.args.storage.now in
    let answers = subst (λ f. ChangeAnswers (λ version. Some version) (poked (rows old) c.args.grain.now content) (rows old) (failed old) (Err f) (rows c.poke.new.self) (failed c.poke.new.self)) c.in-Err-Stale.field-0-is c.in-Err-Stale.ensures.answers in
    never_stale (rows old) c.args.grain.now content c.in-Err-Stale.field-0-0 answers.0

pub returns-in-Ok-clause-answers : goal.returns-in-Ok-clause-answers
returns-in-Ok-clause-answers g c =
    let rows = g.S.GrainStorage.rows c.args.storage.now in
    let after = g.S.GrainStorage.rows c.poke.new.self in
    let version = c.in-Ok.version in
    let pokes : poked rows c.args.grain.now c.args.state.now ≡ Ok (Some version, after) = (λ i. poked rows c.args.grain.now (sym c.in_ok-content.ensures.cases i)) ∙ c.in-Ok.ensures.answers.0 in
    (Some version, pokes, c.decimal_in.ensures, c.in-Ok.ensures.answers.1)
