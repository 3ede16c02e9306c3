use Rattle.std.proofs.Common.{sym, ap, ◌∙◌, subst}
use Rattle.std.specs.Prelude.{IfSome}
use Rattle.tenant_gate.specs.Age.{IsAge}
use Rattle.idle_collector.specs.Ages.{age_for}
use Rattle.idle_collector.proofs.AgesOf.{found_in_range}
use Rattle.idle_collector.proofs.ages.AgeTable.age_of.Goals as goal

pub returns-in-Some-clause-in_range : goal.returns-in-Some-clause-in_range
returns-in-Some-clause-in_range c =
    let kind = c.args.kind.now in
    subst (λ found. IfSome found IsAge) (sym (c.in-Some.ensures ∙ ap (λ ages. age_for ages kind) c.as_slice.ensures.value))
    (found_in_range c.self.inside.list.items kind c.self.invariant.in_range)
