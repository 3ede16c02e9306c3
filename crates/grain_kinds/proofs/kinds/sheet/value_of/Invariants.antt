use Rattle.std.proofs.Common.{◌≡◌, drop}
use Rattle.turn_arena.specs.NodeValue.{field_values}
use Rattle.grain_kinds.specs.Kinds.Sheet.{value_in}
use Rattle.grain_kinds.proofs.kinds.sheet.value_of.Given as goal

abbrev pub invariant-fields : goal.invariant-fields
invariant-fields l = value_in l.name (field_values (drop l.field-index l.fields)) ≡ value_in l.name (field_values l.fields)
