use Rattle.std.proofs.Common.{ap, sym, ◌∙◌, arith}
use Rattle.turn_arena.proofs.Levels.{node_value-List}
use Rattle.turn_arena.specs.NodeValue.{node_value}
use Rattle.grain_kinds.specs.Kinds.Relay.{are_distinct, members_in}
use Rattle.grain_kinds.proofs.Members.{few, too_many, all_found}
use Rattle.grain_kinds.proofs.kinds.relay.members_of.Goals as goal

pub returns-then-values-gt-MAX_MEMBERS-clause-same : goal.returns-then-values-gt-MAX_MEMBERS-clause-same
returns-then-values-gt-MAX_MEMBERS-clause-same c =
    let shown = ap node_value c.in-List.is ∙ node_value-List c.in-List.values in
    c.new-then-values-gt-MAX_MEMBERS.ensures.items ∙ too_many c.in-List.values.now (omega arith) ∙ sym (ap members_in shown)

pub returns-clause-same : goal.returns-clause-same
returns-clause-same c =
    let shown = ap node_value c.in-List.is ∙ node_value-List c.in-List.values in
    let distinct = sym c.if-not-are_distinct.false ∙ c.are_distinct.ensures ∙ ap are_distinct c.as_slice.ensures.value in
    all_found c.in-List.values.now c.in-Some.grains.items (omega arith) (rw c.in-Some.is at c.in_ok-grains.ensures) distinct ∙ sym (ap members_in shown)

pub returns-clause-few : goal.returns-clause-few
returns-clause-few c = few c.in-List.values.now c.in-Some.grains.items (rw c.in-Some.is at c.in_ok-grains.ensures) (omega arith)
