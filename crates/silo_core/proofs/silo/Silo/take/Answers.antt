use Rattle.std.proofs.Common.{◌≡◌, List, ◌++◌, ap, ◌∙◌}
use Rattle.silo_event.specs.declared.step.Step.{Step}
use Rattle.silo_core.specs.inside.Shown.{setup_of}
use Rattle.silo_core.specs.Runs.{noted}
use Rattle.silo_core.proofs.Moved.{moves_lead}
use Rattle.silo_core.proofs.silo.Silo.take.Goals as goal

pub invariant_of-self-in-Ok-step : goal.invariant_of-self-in-Ok-step
invariant_of-self-in-Ok-step g c =
    let a = c.self.inside in
    let logic = g.L.GrainLogic.logic in
    let setup = setup_of a.tenants a.age a.ages a.opening.items a.kept in
    let answer = c.in-Ok-step.answer in
    let grown : c.note.new.journal.items ≡ a.journal.items ++ noted c.args.step answer = c.note.ensures ∙ ap (λ (j : List Step). j ++ noted c.args.step answer) c.in-Ok.ensures.items in
    (moves_lead logic setup a.journal.items c.note.new.journal.items a.state c.step.new.self c.args.step answer c.self.invariant.0 c.in-Ok-step.ensures grown, c.self.invariant.1)
