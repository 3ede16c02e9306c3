use Rattle.journal_text.proofs.Common.{arith, subst}
use Rattle.journal_text.specs.inside.Kept.{KeepsStep}
use Rattle.std.proofs.lemmas.List.Elements.{All-more}
use Rattle.journal_text.proofs.KeptRules.{all_taken}
use Rattle.journal_text.proofs.kept.see_steps.Goals as goal

pub steps-preserved : goal.steps-preserved
steps-preserved c =
    All-more KeepsStep c.args.steps.now c.steps.step-index c.step-item.result (omega (arith, c.steps-test.true, c.steps.auto.step-index-end)) c.steps.invariant
    (subst KeepsStep c.step-item.is c.see_step.ensures)

pub returns : goal.returns
returns c = all_taken KeepsStep c.args.steps.now c.steps.step-index (omega (arith, c.steps-test.false, c.steps.auto.step-index-end)) c.steps.invariant
