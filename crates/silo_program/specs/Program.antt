-- What the program runs.
use Rattle.std.specs.Prelude.{ℕ}
use Rattle.tenant_gate.specs.Table.{Table}
use Rattle.idle_collector.specs.Ages.{Ages}
use Rattle.grain_kinds.specs.Versions.{newest}
use Rattle.grain_kinds.specs.Kinds.{newest_kinds}
use Rattle.command_parts.specs.Setups.{Start, Version, starting, version_of}

-- the newest version of the kinds
abbrev pub program_version : Version
program_version = version_of newest_kinds newest

-- what a silo of the program starts from, for these tenants under this age and these ages of kinds
abbrev pub program_start : Table → ℕ → Ages → Start
program_start tenants age ages = starting program_version tenants age ages
