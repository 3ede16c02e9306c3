-- What clients ask by steps, and are told by replies.
use Rattle.std.specs.Prelude.{ℕ, List, [], ◌∷◌, flat_map, Option, Some, None, if◌then◌else◌}
use Rattle.grain_id.specs.Names.{Client, client_eq}
use Rattle.silo_event.specs.declared.reply.Party.{Party}
use Rattle.silo_event.specs.declared.reply.Party.TheVariants as party
use Rattle.silo_event.specs.declared.reply.Reply.{Reply}
use Rattle.silo_event.specs.declared.step.Step.{Step}
pub use Rattle.silo_event.specs.Asker.{asking_of, asker_of}

-- the number, if it is the client's
abbrev pub id_if : Client → Client → ℕ → List ℕ
id_if client caller id = if client_eq caller client then id ∷ [] else []

-- the number under which the client asks, if it is the one who asks
abbrev pub id_asked : Client → Option (Client × ℕ) → List ℕ
id_asked client None = []
id_asked client (Some asking) = id_if client asking.0 asking.1

-- the number under which the client is told something, if it is the recipient
abbrev pub id_of : Client → Party → List ℕ
id_of client (party.Client caller id) = id_if client caller id
id_of client (party.Grain grain) = []

-- the numbers under which the client asked, in order
abbrev pub ids_asked : Client → List Step → List ℕ
ids_asked client steps = flat_map (λ s. id_asked client (asking_of s)) steps

-- the numbers under which it was told something, in order
abbrev pub ids_told : Client → List Reply → List ℕ
ids_told client replies = flat_map (λ r. id_of client r.recipient) replies
