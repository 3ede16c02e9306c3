use Rattle.std.proofs.Common.{◌≡◌, List, ◌++◌, ap, subst, ◌∙◌}
use Rattle.std.specs.Prelude.{Ok}
use Rattle.silo_event.specs.declared.step.Step.{Step}
use Rattle.silo_event.specs.declared.step.Step.TheVariants as step
use Rattle.silo_core.specs.History.{History, StepAnswersInParts}
use Rattle.silo_core.specs.inside.Shown.{setup_of}
use Rattle.silo_core.specs.Runs.{noted}
use Rattle.silo_core.proofs.Moved.{moves_lead, moved_parts}
use Rattle.silo_core.proofs.silo.Silo.end.Goals as goal

pub invariant_of-self-2 : goal.invariant_of-self-2
invariant_of-self-2 g c =
    let a = c.self.inside in
    let logic = g.L.GrainLogic.logic in
    let setup = setup_of a.tenants a.age a.ages a.opening.items a.kept in
    let s = step.End c.in_ok-grain.grain c.number-turn.result in
    let answer = c.in_ok-answer.answer in
    let grown : c.note.new.journal.items ≡ a.journal.items ++ noted s answer = c.note.ensures ∙ ap (λ (j : List Step). j ++ noted s answer) c.in_ok-reserve.ensures.items in
    (moves_lead logic setup a.journal.items c.note.new.journal.items a.state c.end.new.self s answer c.self.invariant.0 c.in_ok-answer.ensures.moves grown, c.self.invariant.1)

pub returns-clause-parts : goal.returns-clause-parts
returns-clause-parts g c =
    let a = c.self.inside in
    let logic = g.L.GrainLogic.logic in
    let setup = setup_of a.tenants a.age a.ages a.opening.items a.kept in
    let s = step.End c.in_ok-grain.grain c.number-turn.result in
    let named = step.End c.args.finished.now.grain c.args.finished.now.number in
    let answer = c.in_ok-answer.answer in
    let same : s ≡ named = λ i. step.End ((c.in_ok-grain.ensures.cases ∙ c.grain.ensures) i) (c.number-turn.ensures i) in
    subst (λ (h : History). StepAnswersInParts logic h.whole named (Ok answer) c.end.new.self.whole) c.self.view_is
    (subst (λ (r : Step). StepAnswersInParts logic a.state.whole r (Ok answer) c.end.new.self.whole) same (moved_parts logic setup a.journal.items a.state c.end.new.self s answer c.self.invariant.0 c.in_ok-answer.ensures.moves))
