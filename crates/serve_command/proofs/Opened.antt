-- A silo that opened over no rows.
use Rattle.std.proofs.Common.{◌≡◌, ℕ}
use Rattle.tenant_gate.specs.Table.{Table}
use Rattle.idle_collector.specs.Ages.{Ages}
use Rattle.silo_model.specs.Opening.{Setup}
use Rattle.silo_core.specs.Reopening.{OpensEmpty}
use Rattle.silo_core.proofs.Opened.{opens_empty}
use Rattle.command_parts.specs.Setups.{setup_of}

pub opened_so : (setup : Setup) (tenants : Table) (age : ℕ) (ages : Ages) → setup ≡ setup_of tenants age ages → OpensEmpty setup
opened_so setup tenants age ages is = opens_empty setup tenants age ages is
