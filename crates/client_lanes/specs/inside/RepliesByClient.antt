-- The replies by the clients that they are told, as code collects them.
use Rattle.std.specs.Prelude.{◌≡◌, List, [], ◌∷◌, Option, Some, None, unwrap_or, if◌then◌else◌}
use Rattle.std.specs.Option.{option_map}
use Rattle.std.specs.Global.{Vec}
use Rattle.indexmap.specs.IndexMap.{IndexMap, get}
use Rattle.grain_id.specs.Names.{Client, client_eq}
use Rattle.silo_event.specs.declared.reply.Reply.{Reply}
use Rattle.lane_model.specs.Serving.{replies_to}

-- what stands there for a client
abbrev pub told_to : {S : Type 0} → IndexMap Client (Vec Reply) S → Client → List Reply
told_to told client = unwrap_or (option_map (λ v. v.items) (get client_eq told client)) []

-- Of each client, the replies to it stand there.
abbrev pub HoldsReplies : {S : Type 0} → IndexMap Client (Vec Reply) S → List Reply → Type 0
HoldsReplies told replies = (client : Client) → told_to told client ≡ replies_to (Some client) replies

-- the reply, if it is this client's
abbrev pub only_to : Client → Client → Reply → List Reply
only_to caller client reply = if client_eq caller client then reply ∷ [] else []

-- what stands there for a lane
abbrev pub told_by : {S : Type 0} → IndexMap Client (Vec Reply) S → Option Client → List Reply
told_by told None = []
told_by told (Some client) = told_to told client
