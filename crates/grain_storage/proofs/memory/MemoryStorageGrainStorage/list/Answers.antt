use Rattle.std.proofs.Common.{ap, ◌∙◌}
use Rattle.std.proofs.lemmas.Result.{IfOk-weaker}
use Rattle.std.specs.FinMap.{entries}
use Rattle.indexmap.proofs.CallerLemmas.{Drains-YieldsInOrder}
use Rattle.grain_storage.proofs.Ascending.{sorted-entries}
use Rattle.grain_storage.proofs.memory.MemoryStorageGrainStorage.list.Goals as goal

pub returns : goal.returns
returns c =
    let sorted = c.in_ok-sort_unstable_keys.ensures in
    IfOk-weaker c.from_iter.result _ _ (λ list ran.
    let end = ran.3.2 tt in
    ran.4.0 ∙ Drains-YieldsInOrder _ _ ran.0 ran.1 ran.2.2 (end.0, (ran.3.0, ran.3.1, end.1)) ∙ ran.2.0
    ∙ sorted-entries c.self.inside.rows.entries c.in_ok-ordered.ordered.entries c.sort_unstable_keys.new.self.entries c.in_ok-ordered.ensures.cases sorted.reordered.2 sorted.unique sorted.sorted
    ∙ ap entries c.self.view_is) c.from_iter.ensures.ran
