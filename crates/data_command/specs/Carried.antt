-- What a start under other words makes of a tenant.
use Rattle.std.specs.Prelude.{◌≡◌, ℕ, List, option_map}
use Rattle.tenant_gate.specs.Table.{limits_of}
use Rattle.silo_model.specs.Opening.{Setup, account_at, opening}
use Rattle.silo_model.specs.Whole.{shown_to}
use Rattle.command_parts.specs.Setups.{Start}
use Rattle.data_command.specs.Folder.{carried}

-- Its limits and the ages are the new ones, and all that was kept of it is as it was.
abbrev pub WordsChangeLimits : Type 0
WordsChangeLimits = (start : Start) (old : Setup) (tenant : List ℕ)
    → shown_to tenant (opening (carried start.setup old))
    ≡ record (shown_to tenant (opening old)) {
      account = option_map (account_at old.kept tenant) (limits_of start.setup.tenants tenant);
      age = start.setup.age;
      ages = start.setup.ages;
    }
