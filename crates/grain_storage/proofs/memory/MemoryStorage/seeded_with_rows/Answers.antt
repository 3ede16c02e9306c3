use Rattle.std.proofs.Common.{◌++◌, ap, sym, ◌∙◌}
use Rattle.grain_storage.proofs.Ascending.{insert_entry-next}
use Rattle.grain_storage.proofs.memory.MemoryStorage.seeded_with_rows.Goals as goal

pub loop-grain-preserved : goal.loop-grain-preserved
loop-grain-preserved c =
    let es = c.loop-grain.kept.entries in
    insert_entry-next es c.next.new.self.rest.items c.args.rows.items c.place.new.kept.entries c.in-Some.grain c.in-Some.row
    (ap (λ left. es ++ left) (sym c.in-Some.ensures.steps.0) ∙ c.loop-grain.invariant) c.requires.ascending c.in_ok-place.ensures
