-- What a client asks beside calls: a line that is refused, a poke of a row, and the status of its tenant.
use Rattle.std.specs.Prelude.{ℕ, Bool, Option, Some, None, Result, Ok, Err, pos, codes, if◌then◌else◌}
use Rattle.grain_id.specs.Names.{Grain}
use Rattle.request_codec.specs.Tree.{Tree, integer, field, no_fields}
use Rattle.request_codec.specs.Tree as tree
use Rattle.grain_storage.specs.declared.row.Row.{Row}
use Rattle.grain_storage.specs.Rows.{RowFault, stale, spent}
use Rattle.silo_event.specs.Fault.{refusal_fault}
use Rattle.silo_event.specs.declared.fault.Fault.{Fault}
use Rattle.silo_event.specs.declared.fault.Fault.TheVariants.{UnknownTenant, StorageFailed, StateChanged, VersionsSpent}
use Rattle.silo_event.specs.declared.refusal.Refusal.{Refusal}
use Rattle.silo_event.specs.declared.reply.Party.{Party}
use Rattle.grain_logic.specs.Logic.{Logic}
use Rattle.silo_model.specs.Machine.{Account}
use Rattle.silo_model.specs.Effect.{Context, Effect, Change, keep, only_replies}
use Rattle.silo_model.specs.Calls.{told, gate}
use Rattle.silo_model.specs.Stores.{row_poked, version_value}

-- the line asks for nothing that can be asked
abbrev pub refused : Party → Refusal → Effect
refused asker code = only_replies (told asker (Err (refusal_fault code)))

-- ---- pokes

-- what the storage answered: the new version is told, and no entry is touched
abbrev pub row_told : Party → Grain → Result (Option ℕ × Change Row) RowFault → Effect
row_told asker grain (Ok done) = record { account = keep; entry = keep; row = done.1; replies = told asker (Ok (version_value done.0)) }
row_told asker grain (Err (stale found)) = only_replies (told asker (Err (StateChanged grain)))
row_told asker grain (Err spent) = only_replies (told asker (Err (VersionsSpent grain)))

-- a poke that passed the gate
abbrev pub poke_settled : Context → Party → Grain → Tree → Bool → Result Account Fault → Effect
poke_settled s asker grain state failed (Ok account) =
    if failed then only_replies (told asker (Err StorageFailed)) else row_told asker grain (row_poked s.row state)
poke_settled s asker grain state failed (Err why) = only_replies (told asker (Err why))

unfoldable pub poked : Logic → Context → Party → Grain → Tree → Bool → Effect
poked logic s asker grain state failed = poke_settled s asker grain state failed (gate logic s s.account grain)

-- ---- status

-- how many entries there are, the clock, and how many requests were accepted
abbrev pub status_of : Context → Account → Tree
status_of s account = tree.map (field (codes "activations") (integer (pos s.active))
    (field (codes "clock") (integer (pos s.clock)) (field (codes "requests") (integer (pos account.count)) no_fields)))

abbrev pub status_told : Context → Party → Option Account → Effect
status_told s asker None = only_replies (told asker (Err (UnknownTenant s.tenant)))
status_told s asker (Some account) = only_replies (told asker (Ok (status_of s account)))
