use Rattle.std.proofs.Common.{sym, refl}
use Rattle.std.specs.FinMap.{get-empty}
use Rattle.grain_id.specs.Names.{grain_cmp}
use Rattle.example_notes.proofs.FullDiskGrainStorage.read.Goals as goal

pub returns : goal.returns
returns c = record { answers = (sym (get-empty grain_cmp c.args.arg3.now), refl, refl) }
