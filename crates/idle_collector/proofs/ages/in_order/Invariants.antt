use Rattle.std.proofs.Common.{◌≡◌, [], length, take, drop}
use Rattle.tenant_gate.specs.Table.{first_repeat}
use Rattle.idle_collector.specs.Ages.{kinds_of}
use Rattle.idle_collector.specs.inside.AgesInOrder.{sorted_ages}
use Rattle.idle_collector.proofs.ages.in_order.Given as goal

-- the ages so far stand in order, and none of their kinds repeats another
abbrev pub invariant-loop-kind : goal.invariant-loop-kind
invariant-loop-kind l = record {
  repeat : first_repeat [] (kinds_of l.list) ≡ first_repeat (kinds_of (take l.kind-index l.list)) (kinds_of (drop l.kind-index l.list));
  sorted : l.table.items ≡ sorted_ages (take l.kind-index l.list);
  as_many : length l.table.items ≡ l.kind-index;
}
