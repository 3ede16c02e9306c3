use Rattle.journal_text.proofs.Common.{All, take}
use Rattle.journal_text.specs.inside.Kept.{KeepsStep}
use Rattle.journal_text.proofs.kept.see_steps.Given as goal

abbrev pub invariant-steps : goal.invariant-steps
invariant-steps l = All KeepsStep (take l.step-index l.steps)
