use Rattle.std.proofs.Common.{Some, None, ap, sym, ◌∙◌, subst}
use Rattle.grain_id.specs.Names.{Grain}
use Rattle.silo_event.specs.declared.step.Step.{Step}
use Rattle.silo_event.specs.declared.step.Step.TheVariants.{Deliver}
use Rattle.silo_model.specs.Todo.{IsTodo}
use Rattle.silo_model.proofs.OwnSends.{sends_are_own}
use Rattle.silo_model.proofs.WorkAtGrains.{work_is_done}
use Rattle.tenant_accounts.specs.Sends.{HasSent}
use Rattle.silo_state.specs.Work.{step_at}
use Rattle.silo_core.specs.History.{History}
use Rattle.silo_core.specs.inside.Shown.{setup_of}
use Rattle.silo_core.proofs.Walked.{delivery_to_do, nothing_to_do}
use Rattle.silo_core.proofs.silo.Silo.todo.Goals as goal

pub returns-in-Some : goal.returns-in-Some
returns-in-Some g c =
    let logic = g.L.GrainLogic.logic in
    let is = c.at.ensures ∙ ap (λ (id : Grain). step_at id c.in-Some.work) c.in_ok-clone.ensures.cases in
    subst (λ (h : History). IsTodo logic h.whole (Some c.at.result)) c.self.view_is
    (work_is_done.entries logic c.self.inside.state.whole c.in-Some.grain.now c.at.result (c.in-Some.ensures.found ∙ ap (λ (s : Step). Some s) (sym is)))

pub returns-in_default-first_sender : goal.returns-in_default-first_sender
returns-in_default-first_sender g c =
    let logic = g.L.GrainLogic.logic in
    subst (λ (h : History). IsTodo logic h.whole None) c.self.view_is
    (nothing_to_do logic c.self.inside.state.whole c.in_default.ensures.none c.in_default-first_sender.ensures.none)

pub returns : goal.returns
returns g c =
    let logic = g.L.GrainLogic.logic in
    let a = c.self.inside in
    let own = sends_are_own logic (setup_of a.tenants a.age a.ages a.opening.items a.kept) a.journal.items a.state.whole c.self.invariant.0 in
    let has = subst (HasSent a.state.whole.accounts) (sym c.in_ok-grain.ensures.cases) c.in-Some-first_sender.ensures.found in
    subst (λ (h : History). IsTodo logic h.whole (Some (Deliver c.in_ok-grain.grain))) c.self.view_is
    (delivery_to_do logic a.state.whole own c.in_ok-grain.grain has)
