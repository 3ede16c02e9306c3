use Rattle.std.proofs.Common.{◌≡◌, ◌++◌}
use Rattle.grain_storage.proofs.memory.MemoryStorage.seeded_with_rows.Given as goal

-- the rows so far, and then those that are left
abbrev pub invariant-loop-grain : goal.invariant-loop-grain
invariant-loop-grain l = l.kept.entries ++ l.grain-iterator.rest.items ≡ l.fn.rows.items
