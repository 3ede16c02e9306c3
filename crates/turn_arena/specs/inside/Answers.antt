-- What the calls of this crate answer, by the fault that each may have.
use Rattle.std.specs.Prelude.{◌≡◌, Option, Some, None, Result, Ok, Err}
use Rattle.turn_arena.specs.declared.fault.ArenaFault.{ArenaFault}
use Rattle.turn_arena.specs.declared.fault.ArenaFault.TheVariants as faults

-- The answer, seen by view, is what the bytes spell, where they spell something; and NotAMessage exactly where they spell nothing.
abbrev pub ReadsIn : {X A : Type 0} → (X → A) → Result X ArenaFault → Option A → Type 0
ReadsIn view (Ok x) found = found ≡ Some (view x)
ReadsIn view (Err faults.NotAMessage) found = found ≡ None
ReadsIn view (Err faults.Memory) found = Unit {0}
