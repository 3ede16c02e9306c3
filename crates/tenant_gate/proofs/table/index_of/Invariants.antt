use Rattle.std.proofs.Common.{◌≡◌, [], take, drop}
use Rattle.tenant_gate.specs.Table.{names_of, first_repeat}
use Rattle.tenant_gate.specs.inside.Index.{HasLimits}
use Rattle.tenant_gate.proofs.table.index_of.Given as goal

-- the index of the tenants so far, none of which repeats another
abbrev pub invariant-loop-tenant : goal.invariant-loop-tenant
invariant-loop-tenant l = record {
  repeat : first_repeat [] (names_of l.list) ≡ first_repeat (names_of (take l.tenant-index l.list)) (names_of (drop l.tenant-index l.list));
  limits : HasLimits (take l.tenant-index l.list) l.index;
}
