-- The journal of a silo.
use Rattle.std.specs.Prelude.{ℕ}
use Rattle.std.specs.FinMap as map
use Rattle.silo_core.specs.History as silo
use Rattle.journal_text.specs.Text.{History, history_of}
use Rattle.audit_model.specs.Parts.{all_recorded}

-- the number of its grains' logic, its age, the ages that kinds have of their own, its table, the steps that it took, its
-- replies as they are recorded, and the rows that it holds
abbrev pub journal_of : ℕ → silo.History → History
journal_of kinds h =
    history_of kinds h.setup.age h.setup.ages h.setup.tenants h.journal (all_recorded h.whole.replies) (map.entries h.whole.rows)
