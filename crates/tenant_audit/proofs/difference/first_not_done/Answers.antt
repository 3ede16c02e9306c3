use Rattle.silo_model.proofs.Common.{◌∙◌, ◌≡◌, AllByRecursion, Step, concerns, false, subst, true}
use Rattle.std.proofs.Common.{rules}
use Rattle.std.specs.declared.alloc.AllocError.{AllocError}
use Rattle.tenant_audit.proofs.Steps.{is_done, not_done, one_taken, stops_here}
use Rattle.tenant_audit.proofs.difference.first_not_done.Goals as goal

pub returns-then-not-branch : goal.returns-then-not-branch
returns-then-not-branch g c =
    let logic = g.L.GrainLogic.logic in
    let s = c.in-Some.step.now in
    let undone : c.in_ok-step.field-0 ≡ false = search rules in
    stops_here logic c.args.machine.now c.args.steps c.steps.machine c.steps.rest c.steps.invariant.taken s c.in-Some.later c.in-Some.ensures c.len-all.result c.len.result c.len-all.ensures c.len.ensures
    (not_done AllocError logic c.steps.machine c.step.new.self s c.in_ok-step.field-0 undone c.in_ok-step.ensures.answers)

pub steps-preserved : goal.steps-preserved
steps-preserved g c =
    let logic = g.L.GrainLogic.logic in
    let s = c.in-Some.step.now in
    let did : c.in_ok-step.field-0 ≡ true = search rules in
    record {
      taken = one_taken logic c.args.machine.now c.args.steps c.steps.machine c.steps.rest c.steps.invariant.taken s c.in-Some.later c.in-Some.ensures c.step.new.self
          (is_done AllocError logic c.steps.machine c.step.new.self s c.in_ok-step.field-0 did c.in_ok-step.ensures.answers);
      same = c.in_ok-step.ensures.tenant ∙ c.steps.invariant.same;
      concern = (subst (AllByRecursion (λ (step : Step). concerns c.args.machine.now.tenant step ≡ true)) c.in-Some.ensures c.steps.invariant.concern).1;
    }
