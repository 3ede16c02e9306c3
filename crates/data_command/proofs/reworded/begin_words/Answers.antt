use Rattle.std.proofs.Common.{Ok, List, ap, refl, subst, ◌∙◌, ℕ}
use Rattle.command_parts.specs.Setups.{version_of}
use Rattle.data_command.specs.Data.{NothingFollows}
use Rattle.data_command.specs.inside.Replacing.{AreTexts}
use Rattle.data_command.proofs.reworded.begin_words.Goals as goal

-- the number, as it is spelled
pub returns-in_default-clause-fault : goal.returns-in_default-clause-fault
returns-in_default-clause-fault g c = (
  refl,
  subst (λ (n : List ℕ). NothingFollows (version_of g.L.GrainLogic.logic c.args.task.now.kinds) c.args.task.now.sends n c.args.silo.now.history.setup)
      (c.as_slice.ensures ∙ c.spell-number.ensures) (c.in-Ok.ensures.none (ap Ok c.in_default.is)),
)

pub returns-in-Ok-switch-clause-begun : goal.returns-in-Ok-switch-clause-begun
returns-in-Ok-switch-clause-begun g c = record {
  text = c.in-Some.text.items;
  are = subst (λ (n : List ℕ). AreTexts (version_of g.L.GrainLogic.logic c.args.task.now.kinds) c.args.task.now.sends n c.args.silo.now.history.setup c.args.task.now.words.items c.in-Some.text.items c.in-Some.head.items)
      (c.as_slice.ensures ∙ c.spell-number.ensures) (rw c.in-Some.is at c.in-Ok.ensures.texts);
  done = rw c.as_slice-2.ensures.value at (rw c.as_slice-3.ensures.value at (rw c.in-Ok-switch.is at c.switch.ensures.ok));
}
