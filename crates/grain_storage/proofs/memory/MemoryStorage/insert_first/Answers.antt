use Rattle.std.proofs.Common.{ap, ◌∙◌}
use Rattle.std.specs.FinMap.{insert}
use Rattle.grain_storage.proofs.Entries.{rows_of-updated}
use Rattle.grain_storage.proofs.Changes.{first_put}
use Rattle.grain_storage.proofs.memory.MemoryStorage.insert_first.Goals as goal

pub returns-in-Ok : goal.returns-in-Ok
returns-in-Ok c =
    first_put c.args.self.now c.args.grain.now c.requires c.args.content _
    (rows_of-updated c.self.inside.rows.entries c.args.self.now c.self.view_is c.in_ok-key.key c.insert.new.self.entries (record { version = 1; content = c.args.content }) c.in-Ok.ensures.updates.0
    ∙ ap (λ key. insert c.args.self.now key (record { version = 1; content = c.args.content })) c.in_ok-key.ensures.cases)
