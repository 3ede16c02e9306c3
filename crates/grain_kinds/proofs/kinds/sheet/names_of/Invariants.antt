use Rattle.std.proofs.Common.{◌≡◌, ◌++◌, map, drop}
use Rattle.turn_arena.specs.NodeValue.{node_value}
use Rattle.grain_kinds.proofs.Fields.{name_text}
use Rattle.grain_kinds.proofs.kinds.sheet.names_of.Given as goal

abbrev pub invariant-fields : goal.invariant-fields
invariant-fields l = map node_value l.names.items ++ map name_text (drop l.field-index l.fields) ≡ map name_text l.fields
