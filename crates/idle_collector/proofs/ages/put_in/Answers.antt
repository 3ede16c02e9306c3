use Rattle.std.proofs.Common.{ap, ◌∙◌}
use Rattle.std.specs.List.{insert}
use Rattle.idle_collector.specs.inside.AgesInOrder.{place_in}
use Rattle.idle_collector.proofs.AgesOf.{insert_at_place}
use Rattle.idle_collector.proofs.ages.put_in.Goals as goal

pub returns-clause-put : goal.returns-clause-put
returns-clause-put c =
    let ages = c.args.ages.now.items in
    let place = c.place_in-place.ensures.place ∙ ap (place_in c.args.kind) c.as_slice.ensures.value in
    c.in_ok-insert.ensures.items ∙ ap (λ at. insert ages at (c.args.kind, c.args.age)) place ∙ insert_at_place c.args.kind c.args.age ages c.requires
