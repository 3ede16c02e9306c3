use Rattle.std.proofs.Common.{◌≡◌, List, [], ◌++◌, ap, sym, ◌∙◌}
use Rattle.std.proofs.lemmas.List.{append-nil}
use Rattle.grain_id.specs.Names.{Grain}
use Rattle.idle_collector.specs.inside.Sets.{first_due}
use Rattle.idle_collector.proofs.Sets.{first_due-holds, first_due-stops}
use Rattle.idle_collector.proofs.by_moment.ByMoment.first_due.Goals as goal
use Rattle.idle_collector.proofs.by_moment.ByMoment.first_due.Goals.{in-None, in-Some+then-now-moment}

pub returns : goal.returns
returns c =
    let sets = c.self.inside.sets in
    let now = c.args.now in
    let ended : first_due now c.loop-moment.moment-iterator ≡ [] = elim c.match-next.branch [
      | in-None w ↦ ap (first_due now) w.in-None.ensures.steps.0
      | in-Some+then-now-moment w ↦ ap (first_due now) w.in-Some.ensures.steps ∙ first_due-stops now (w.in-Some.moment.now, w.in-Some.grains.now) c.next.new.self w.if-now-moment.true
    ] in
    let same : c.loop-moment.due.items ≡ first_due now sets.entries =
    sym (append-nil c.loop-moment.due.items) ∙ ap (λ (gs : List Grain). c.loop-moment.due.items ++ gs) (sym ended) ∙ c.loop-moment.invariant
    ∙ ap (first_due now) (c.into_iter-moment-iterator.ensures.into_iter_gives ∙ c.iter-moment-items.ensures.rest) in
    rw (← c.self.view_is, same) (first_due-holds sets c.self.invariant now)
