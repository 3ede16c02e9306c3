-- What a row gives to a grain, and what its requests are told where the storage failed.
use Rattle.std.specs.Prelude.{◌≡◌, ℕ, Bool, true, false, ◌&&◌, ◌==◌, length, List, Option, Result, Ok, Err}
use Rattle.std.specs.FinMap as map
use Rattle.grain_id.specs.Names.{Grain}
use Rattle.request_codec.specs.Tree.{Tree}
use Rattle.grain_storage.specs.declared.fault.StoreFault.{StoreFault}
use Rattle.grain_storage.specs.Rows.{Rows, version_of, content_or}
use Rattle.grain_storage.specs.Answers.{ReadAnswers}
use Rattle.grain_logic.specs.Logic.{Logic}
use Rattle.turn_mailbox.specs.declared.request.Request.{Request}
use Rattle.silo_event.specs.declared.fault.Fault.TheVariants.{StorageFailed}
use Rattle.silo_event.specs.declared.reply.Reply.{Reply}
use Rattle.silo_model.specs.Machine.{Entry, Phase, waiting, loading, ready}
use Rattle.silo_model.specs.Calls.{reply_to}

-- the request's sender is told that the storage failed
abbrev pub refused : Request → List Reply
refused request = reply_to request.sender (Err StorageFailed)

abbrev pub is_loading : Phase → Bool
is_loading waiting = false
is_loading loading = true
is_loading (ready state version) = false

-- no request waits, and no turn is open
abbrev pub is_quiet : Entry → Bool
is_quiet e = (length e.queue == 0) && (map.len e.turns == 0)

-- The row's content, or the kind's empty state, and the row's version; the rows stay. Otherwise as a read answers.
abbrev pub ReadsState : Logic → Rows → ℕ → Grain → Result (Tree × Option ℕ) StoreFault → Rows → ℕ → Type 0
ReadsState logic rows failures grain (Ok found) after count =
    (found.0 ≡ content_or (logic.empty grain.kind) (map.get rows grain)) × (found.1 ≡ version_of (map.get rows grain))
    × (after ≡ rows) × (count ≡ failures)
ReadsState logic rows failures grain (Err why) after count = ReadAnswers rows failures grain (Err why) after count
