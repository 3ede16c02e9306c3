use Rattle.silo_model.proofs.Common.{◌∙◌, ap, kept_entries, kind_age}
use Rattle.tenant_machine.proofs.Swept.{swept_shows, swept_marked}
use Rattle.tenant_machine.proofs.entries.Entries.sweep.Goals as goal

pub invariant_of-self : goal.invariant_of-self
invariant_of-self g c = swept_marked c.self.inside.by_grain c.sweep.new.self c.args.clock (kind_age c.args.ages.now c.args.age) c.sweep.ensures g.L.GrainLogic.logic c.self.invariant

pub returns : goal.returns
returns g c = swept_shows c.self.inside.by_grain c.sweep.new.self c.args.clock (kind_age c.args.ages.now c.args.age) c.sweep.ensures ∙ ap (kept_entries c.args.clock (kind_age c.args.ages.now c.args.age)) c.self.view_is
