-- The members of a relay, from the values in its state.
use Rattle.std.proofs.Common.{◌≡◌, suc, ◌<◌, ◌≤◌, Bool, true, false, List, [], ◌∷◌, length, Option, Some, refl, sym, ap, ◌∙◌, arith}
use Rattle.std.proofs.lemmas.Bool.{lt-ltb, le-ltb}
use Rattle.std.specs.Prelude.{nat_lt, if◌then◌else◌}
use Rattle.std.specs.Option.{unwrap_or}
use Rattle.grain_id.specs.Names.{Grain}
use Rattle.request_codec.specs.Tree as tree
use Rattle.request_codec.specs.Tree.{Tree, Members, no_members, member, members_count, members_of}
use Rattle.turn_arena.specs.NodeValue.{node_values}
use Rattle.turn_arena.specs.declared.node.Node.{Node}
use Rattle.grain_kinds.specs.Kinds.Relay.Laws.{grains_count}
use Rattle.grain_kinds.specs.Kinds.Relay.{grains_in, are_distinct, if_distinct, members_in, member_limit}

-- ---- how many

nodes_count : (ns : List Node) → members_count (node_values ns) ≡ length ns
nodes_count [] = refl
nodes_count (n ∷ ns) = ap suc (nodes_count ns)

pub few : (ns : List Node) (gs : List Grain) → Some gs ≡ grains_in (node_values ns) → length ns ≤ member_limit → length gs ≤ member_limit
few ns gs found most = omega (arith, grains_count (node_values ns) gs (sym found), nodes_count ns)

-- ---- which

by_count : (vs : Members) (b : Bool) → nat_lt member_limit (members_count vs) ≡ b → members_in (tree.list vs) ≡ (if b then [] else if_distinct (unwrap_or (grains_in vs) []))
by_count vs b is = ap (λ (d : Bool). if d then [] else if_distinct (unwrap_or (grains_in vs) [])) is

pub too_many : (ns : List Node) → member_limit < length ns → [] ≡ members_in (tree.list (node_values ns))
too_many ns more = sym (by_count (node_values ns) true (lt-ltb member_limit (members_count (node_values ns)) (omega (arith, nodes_count ns))))

pub all_found : (ns : List Node) (gs : List Grain) → length ns ≤ member_limit → Some gs ≡ grains_in (node_values ns) → true ≡ are_distinct gs → gs ≡ members_in (tree.list (node_values ns))
all_found ns gs most found distinct =
    let distinct_ones : if_distinct gs ≡ gs = ap (λ (d : Bool). if d then gs else []) (sym distinct) in
    sym (by_count (node_values ns) false (le-ltb member_limit (members_count (node_values ns)) (omega (arith, nodes_count ns))) ∙ ap (λ (o : Option (List Grain)). if_distinct (unwrap_or o [])) (sym found) ∙ distinct_ones)
