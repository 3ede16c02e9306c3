use Rattle.std.proofs.Common.{◌≡◌, List, ◌++◌, drop, option_map}
use Rattle.grain_id.specs.Names.{Grain}
use Rattle.turn_arena.specs.NodeValue.{node_values}
use Rattle.grain_kinds.specs.Kinds.Relay.{grains_in}
use Rattle.grain_kinds.proofs.kinds.relay.grains_of.Given as goal

abbrev pub invariant-values : goal.invariant-values
invariant-values l = option_map (λ (gs : List Grain). l.grains.items ++ gs) (grains_in (node_values (drop l.value-index l.values))) ≡ grains_in (node_values l.values)
