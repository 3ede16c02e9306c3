use Rattle.std.proofs.Common.{◌≡◌, Some, cond, ap, sym, ◌∙◌}
use Rattle.std.specs.FinMap as map
use Rattle.idle_collector.specs.Notes.{Notes}
use Rattle.idle_collector.proofs.Sets.{moment_in, get-notes}
use Rattle.idle_collector.proofs.by_moment.ByMoment.moment_of.Goals as goal

pub returns-then-contains : goal.returns-then-contains
returns-then-contains c =
    let id = c.args.id.now in
    let found : moment_in c.loop-moment.moment-iterator id ≡ Some c.in-Some.moment.now =
    ap (λ es. moment_in es id) c.in-Some.ensures.steps ∙ ap (λ b. cond b (Some c.in-Some.moment.now) (moment_in c.next.new.self id)) (sym c.contains.ensures ∙ c.if-contains.true) in
    sym found ∙ c.loop-moment.invariant ∙ ap (λ es. moment_in es id) (c.into_iter-moment-iterator.ensures.into_iter_gives ∙ c.iter-moment-items.ensures.rest)
    ∙ sym (get-notes c.self.inside.sets.entries id) ∙ ap (λ (n : Notes). map.get n id) c.self.view_is

pub returns : goal.returns
returns c =
    let id = c.args.id.now in
    sym (ap (λ es. moment_in es id) c.in-None.ensures.steps.0) ∙ c.loop-moment.invariant ∙ ap (λ es. moment_in es id) (c.into_iter-moment-iterator.ensures.into_iter_gives ∙ c.iter-moment-items.ensures.rest)
    ∙ sym (get-notes c.self.inside.sets.entries id) ∙ ap (λ (n : Notes). map.get n id) c.self.view_is
