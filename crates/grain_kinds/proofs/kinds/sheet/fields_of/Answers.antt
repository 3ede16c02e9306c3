use Rattle.std.proofs.Common.{ap, ◌∙◌, subst}
use Rattle.turn_arena.proofs.Levels.{node_value-Map}
use Rattle.turn_arena.proofs.FieldPlaces.{names_ascend}
use Rattle.turn_arena.specs.Ascending.{MapsAscend}
use Rattle.turn_arena.specs.NodeValue.{node_value}
use Rattle.grain_kinds.proofs.kinds.sheet.fields_of.Goals as goal

pub returns-in-Map-clause-ascends : goal.returns-in-Map-clause-ascends
returns-in-Map-clause-ascends c = names_ascend c.in-Map.fields.now (subst MapsAscend (ap node_value c.in-Map.is ∙ node_value-Map c.in-Map.fields) c.requires)
