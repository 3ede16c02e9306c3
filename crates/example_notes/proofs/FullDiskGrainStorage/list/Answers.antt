use Rattle.std.proofs.Common.{sym, ◌∙◌}
use Rattle.std.proofs.lemmas.List.{nil_from_length}
use Rattle.std.specs.FinMap.{empty, entries, len-empty, len-entries}
use Rattle.grain_id.specs.Names.{grain_cmp}
use Rattle.grain_storage.specs.declared.row.Row.{Row}
use Rattle.example_notes.proofs.FullDiskGrainStorage.list.Goals as goal

pub returns : goal.returns
returns c = c.new.ensures.items ∙ sym (nil_from_length (entries (empty {X = Row} {R = grain_cmp})) (sym (len-entries (empty {X = Row} {R = grain_cmp})) ∙ len-empty grain_cmp Row))
