-- The value of a node, level by level.
use Rattle.std.proofs.Common.{◌≡◌, ℕ, ℤ, Bool as Truth, List as Listed, Bor, rules}
use Rattle.request_codec.specs.Tree as tree
use Rattle.turn_arena.specs.NodeValue.{node_value, node_values, field_values}
use Rattle.turn_arena.specs.declared.node.Field.{Field}
use Rattle.turn_arena.specs.declared.node.Node.{Node, Null, Bool, Int, Text, List, Map, Bytes, the_lemmas}

pub node_value-Null : node_value Null ≡ tree.null
node_value-Null = search (rules, the_lemmas)

pub node_value-Bool : (b : Truth) → node_value (Bool b) ≡ tree.truth b
node_value-Bool b = search (rules, the_lemmas)

pub node_value-Int : (i : ℤ) → node_value (Int i) ≡ tree.integer i
node_value-Int i = search (rules, the_lemmas)

pub node_value-Text : (s : Bor (Listed ℕ)) → node_value (Text s) ≡ tree.text s.now
node_value-Text s = search (rules, the_lemmas)

pub node_value-List : (ns : Bor (Listed Node)) → node_value (List ns) ≡ tree.list (node_values ns.now)
node_value-List ns = search (rules, the_lemmas)

pub node_value-Map : (fs : Bor (Listed Field)) → node_value (Map fs) ≡ tree.map (field_values fs.now)
node_value-Map fs = search (rules, the_lemmas)

pub node_value-Bytes : (b : Bor (Listed ℕ)) → node_value (Bytes b) ≡ tree.bytes b.now
node_value-Bytes b = search (rules, the_lemmas)

pub ruleset node_levels = (node_value-List, node_value-Map)
