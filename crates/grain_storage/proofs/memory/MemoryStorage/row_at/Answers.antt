use Rattle.std.proofs.Common.{sym}
use Rattle.grain_storage.proofs.Entries.{get-found}
use Rattle.grain_storage.proofs.memory.MemoryStorage.row_at.Goals as goal

pub returns : goal.returns
returns c = sym (get-found c.self.inside.rows.entries c.args.self.now c.self.view_is c.args.grain.now _ c.get.ensures.value)
