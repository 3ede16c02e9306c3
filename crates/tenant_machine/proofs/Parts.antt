-- The machine that parts show.
use Rattle.silo_model.proofs.Common.{Account, Entries, List, Machine, Option, Reply, Rows, ℕ}
use Rattle.idle_collector.specs.Ages.{Ages}

abbrev pub machine_of : List ℕ → Option Account → ℕ → Ages → ℕ → Entries → Rows → List Reply → Machine
machine_of tenant account age ages clock entries rows replies = record { tenant = tenant; account = account; age = age; ages = ages; clock = clock; entries = entries; rows = rows; replies = replies }
