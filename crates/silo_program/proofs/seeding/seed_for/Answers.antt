use Rattle.std.proofs.Common.{subst, sym}
use Rattle.silo_program.proofs.SeedLemmas.{TakesMaps, ask_for_work, with_work}
use Rattle.silo_program.proofs.seeding.seed_for.Goals as goal

pub returns-in-Steps : goal.returns-in-Steps
returns-in-Steps g c words asked = with_work c.random_seed.result _ (ask_for_work words c.args.task.now (subst TakesMaps (sym c.in-Steps.is) tt) asked) c.random_seed.ensures

pub returns-in-Answer : goal.returns-in-Answer
returns-in-Answer g c words asked = with_work c.random_seed-in-Answer.result _ (ask_for_work words c.args.task.now (subst TakesMaps (sym c.in-Answer.is) tt) asked) c.random_seed-in-Answer.ensures

pub returns-in-Serve : goal.returns-in-Serve
returns-in-Serve g c words asked = with_work c.random_seed-in-Serve.result _ (ask_for_work words c.args.task.now (subst TakesMaps (sym c.in-Serve.is) tt) asked) c.random_seed-in-Serve.ensures

pub returns-in-Audit : goal.returns-in-Audit
returns-in-Audit g c words asked = with_work c.random_seed-in-Audit.result _ (ask_for_work words c.args.task.now (subst TakesMaps (sym c.in-Audit.is) tt) asked) c.random_seed-in-Audit.ensures
