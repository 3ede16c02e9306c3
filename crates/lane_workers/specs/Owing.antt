-- How many answers each client is owed, and who may ask: one that is owed as many answers as it is told.
use Rattle.std.specs.Prelude.{◌==◌, ℕ, Bool, true, false, List, length, if◌then◌else◌, Option, Some, None}
use Rattle.indexmap.specs.IndexMap.{IndexMap, get}
use Rattle.grain_id.specs.Names.{Client, client_eq}
use Rattle.silo_event.specs.declared.reply.Reply.{Reply}
use Rattle.lane_model.specs.Asking.{ids_told}
use Rattle.lane_workers.specs.declared.owed.Owed.{Owed}

-- how many answers a client is owed of whom this is known, if anything is
abbrev pub count_in : Option Owed → ℕ
count_in None = 0
count_in (Some owed) = owed.count

-- how many answers the client is owed
abbrev pub owing_to : {S : Type 0} → IndexMap Client Owed S → Client → ℕ
owing_to owing client = count_in (get client_eq owing client)

-- how many more it is owed once this client, if any, has asked
abbrev pub asks_once : Option Client → Client → ℕ
asks_once None client = 0
asks_once (Some caller) client = if client_eq caller client then 1 else 0

-- whether the client, if any, may ask: it is owed as many answers as these replies tell it
abbrev pub is_told : {S : Type 0} → IndexMap Client Owed S → List Reply → Option Client → Bool
is_told owing replies None = true
is_told owing replies (Some client) = owing_to owing client == length (ids_told client replies)

-- how many more it is owed, if it asks
abbrev pub asks_if : Bool → Option Client → Client → ℕ
asks_if asked asker client = if asked then asks_once asker client else 0
