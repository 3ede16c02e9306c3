use Rattle.std.proofs.Common.{◌≡◌, List, [], ◌∷◌, ◌++◌, ap, ◌∙◌}
use Rattle.silo_event.specs.declared.step.Step.{Step}
use Rattle.silo_event.specs.declared.step.Step.TheVariants as step
use Rattle.silo_event.specs.declared.step.Answer.TheVariants.{Done}
use Rattle.silo_model.proofs.Journals.{not_now}
use Rattle.silo_core.specs.inside.Shown.{setup_of}
use Rattle.silo_core.proofs.Moved.{moves_lead, moved_parts}
use Rattle.silo_core.proofs.silo.Silo.begin.Goals as goal

pub returns-in_default-clause-parts : goal.returns-in_default-clause-parts
returns-in_default-clause-parts g c =
    let logic = g.L.GrainLogic.logic in
    rw (← c.self.view_is) (λ tenant concerned. not_now logic c.self.inside.state.whole (step.Begin c.args.grain) tenant concerned (rw c.in_default.is at c.in_ok-turn.ensures.moves).0)

pub invariant_of-self-2 : goal.invariant_of-self-2
invariant_of-self-2 g c =
    let a = c.self.inside in
    let logic = g.L.GrainLogic.logic in
    let setup = setup_of a.tenants a.age a.ages a.opening.items a.kept in
    let s = step.Begin c.args.grain in
    let grown : c.push_reserved.new.self.items ≡ a.journal.items ++ s ∷ [] = c.push_reserved.ensures.items ∙ ap (λ (j : List Step). j ++ s ∷ []) c.in_ok-reserve.ensures.items in
    (moves_lead logic setup a.journal.items c.push_reserved.new.self.items a.state c.begin.new.self s Done c.self.invariant.0 (rw c.in-Some.is at c.in_ok-turn.ensures.moves) grown, c.self.invariant.1)

pub returns-clause-parts : goal.returns-clause-parts
returns-clause-parts g c =
    let a = c.self.inside in
    let logic = g.L.GrainLogic.logic in
    let setup = setup_of a.tenants a.age a.ages a.opening.items a.kept in
    rw (← c.self.view_is) (moved_parts logic setup a.journal.items a.state c.begin.new.self (step.Begin c.args.grain) Done c.self.invariant.0 (rw c.in-Some.is at c.in_ok-turn.ensures.moves))
