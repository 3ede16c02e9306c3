use Rattle.silo_model.proofs.Common.{◌++◌, ◌≡◌, List, filter, is_of, length, ℕ}
use Rattle.tenant_audit.specs.inside.Parted.{held_for, pointees}
use Rattle.tenant_audit.proofs.parted_journal.part_rows.Given as goal

-- what is held, and what is left of the rows, are all of them
abbrev pub invariant-rows : goal.invariant-rows
invariant-rows l = (tenant : List ℕ) → pointees (held_for l.stored tenant) ++ filter (λ row. is_of tenant row.0) l.rest ≡ filter (λ row. is_of tenant row.0) l.fn.rows

abbrev pub decreases-rows : goal.decreases-rows
decreases-rows l = length l.rest
