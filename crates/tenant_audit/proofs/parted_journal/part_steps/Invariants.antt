use Rattle.silo_model.proofs.Common.{◌++◌, ◌+◌, ◌≡◌, List, filter, length, map_list, ℕ}
use Rattle.tenant_audit.specs.inside.Parted.{held_for, is_own, is_nobodys, numbered, placed}
use Rattle.tenant_audit.proofs.parted_journal.part_steps.Given as goal

-- what is held, and what is left of the steps, are all of them
abbrev pub invariant-steps : goal.invariant-steps
invariant-steps l = record {
  held : (tenant : List ℕ) → map_list placed (held_for l.own tenant) ++ filter (is_own tenant) (numbered l.place l.rest) ≡ filter (is_own tenant) (numbered 0 l.fn.steps);
  of_nobody : map_list placed l.nobodys.items ++ filter is_nobodys (numbered l.place l.rest) ≡ filter is_nobodys (numbered 0 l.fn.steps);
  counted : l.place + length l.rest ≡ length l.fn.steps;
}

abbrev pub decreases-steps : goal.decreases-steps
decreases-steps l = length l.rest
