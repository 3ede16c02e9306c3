-- What a whole has of a tenant and at a grain, as a step there sees it.
use Rattle.std.specs.Prelude.{ℕ, List}
use Rattle.std.specs.FinMap as map
use Rattle.grain_id.specs.Names.{Grain}
use Rattle.silo_model.specs.Machine.{Entries}
use Rattle.silo_model.specs.Effect.{Context}
use Rattle.silo_model.specs.Whole.{Whole, is_of}

-- how many of the entries are the tenant's
abbrev pub active_in : Entries → List ℕ → ℕ
active_in entries tenant = map.len (map.retain_keys entries (is_of tenant))

-- how many entries the whole has of the tenant
abbrev pub active_of : Whole → List ℕ → ℕ
active_of w tenant = active_in w.entries tenant

-- what the whole has of the tenant and at the grain
abbrev pub context_of : Whole → List ℕ → Grain → Context
context_of w tenant g =
    record {
      tenant = tenant;
      account = map.get w.accounts tenant;
      clock = w.clock;
      active = active_of w tenant;
      entry = map.get w.entries g;
      row = map.get w.rows g;
    }
