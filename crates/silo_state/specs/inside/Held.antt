-- What a silo's state holds.
use Rattle.std.specs.Prelude.{ℕ, List}
use Rattle.std.specs.FinMap.{FinMap}
use Rattle.grain_id.specs.Names.{text_cmp}
use Rattle.grain_storage.specs.Rows.{Rows}
use Rattle.silo_event.specs.declared.reply.Reply.{Reply}
use Rattle.silo_model.specs.Machine.{Account}
use Rattle.silo_model.specs.Whole.{Whole}
use Rattle.silo_state.specs.inside.Activations.{Activations}

-- all tenants' parts together, and how many calls of the storage failed
pub record Held : Type 0 where
  pub whole : Whole
  pub failures : ℕ

-- what these parts hold
abbrev pub held_of : FinMap text_cmp Account → Activations → Rows → List Reply → ℕ → Held
held_of accounts c rows replies failures = record {
  whole = record {
    accounts = accounts;
    age = c.times.age;
    ages = c.times.ages;
    clock = c.times.clock;
    entries = c.entries;
    rows = rows;
    replies = replies;
  };
  failures = failures;
}
