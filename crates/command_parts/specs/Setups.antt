-- What a silo of an input's lines is opened with, and what it runs.
use Rattle.std.specs.Prelude.{ℕ}
use Rattle.std.specs.FinMap.{empty}
use Rattle.grain_logic.specs.Logic.{Logic}
use Rattle.tenant_gate.specs.Table.{Table}
use Rattle.idle_collector.specs.Ages.{Ages}
use Rattle.silo_model.specs.Opening.{Setup, new_setup}

-- the tenants that were named, this age and these ages, no rows, and nothing kept
abbrev pub setup_of : Table → ℕ → Ages → Setup
setup_of tenants age ages = new_setup tenants age ages empty

-- What a silo runs: the logic of its grains, and the number by which a journal or a log names it.
pub record Version : Type 0 where
  pub logic : Logic
  pub number : ℕ

-- What a silo starts from: what it is opened with, and what it runs.
pub record Start : Type 0 where
  pub setup : Setup
  pub version : Version

abbrev pub version_of : Logic → ℕ → Version
version_of logic number = record { logic = logic; number = number }

-- what a silo of this version starts from that is opened with this
abbrev pub started : Version → Setup → Start
started version setup = record { setup = setup; version = version }

-- the same over no rows
abbrev pub starting : Version → Table → ℕ → Ages → Start
starting version tenants age ages = started version (setup_of tenants age ages)
