-- What is left without those of some grains that are due.
use Rattle.std.specs.Prelude.{ℕ, List, [], ◌∷◌, if◌then◌else◌}
use Rattle.std.specs.FinMap as map
use Rattle.grain_id.specs.Names.{Grain}
use Rattle.silo_model.specs.Machine.{Entries}
use Rattle.silo_model.specs.Idle.{is_kept}

-- without that grain, if it is due
abbrev pub without_one : ℕ → (List ℕ → ℕ) → Entries → Grain → Entries
without_one clock age_of entries grain =
    if is_kept clock (age_of grain.kind) (map.get entries grain) then entries else map.remove entries grain

abbrev pub without_due : ℕ → (List ℕ → ℕ) → Entries → List Grain → Entries
without_due clock age_of entries [] = entries
without_due clock age_of entries (grain ∷ grains) = without_due clock age_of (without_one clock age_of entries grain) grains
