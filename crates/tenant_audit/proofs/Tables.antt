-- What is found in a journal's table.
use Rattle.silo_model.proofs.Common.{◌∙◌, ◌≡◌, Limits, List, Option, ap, limits_of, ℕ}
use Rattle.tenant_gate.specs.Table.{Table}

pub limits_there : (t : List ℕ) (table others : Table) (limits : Option Limits) → limits ≡ limits_of table t → table ≡ others → limits ≡ limits_of others t
limits_there t table others limits is same = is ∙ ap (λ (list : Table). limits_of list t) same
