-- How calls that grains sent are seen, and how the first of a grain is found.
use Rattle.std.specs.Prelude.{◌≡◌, ℕ, suc, List, [], ◌∷◌, map, Option, Some, None, option_map, if◌then◌else◌}
use Rattle.std.specs.Borrow.{Bor}
use Rattle.grain_id.specs.Names.{Grain, grain_eq}
use Rattle.silo_model.specs.Machine.{Send}
use Rattle.silo_model.specs.Sends.{first_from}
use Rattle.tenant_machine.specs.declared.account.Sent.{Sent}

abbrev pub send_of : Sent → Send
send_of s = record { source = s.source; message = record { target = s.target; call = s.message } }

abbrev pub sends_of : List Sent → List Send
sends_of sends = map send_of sends

-- what was sent, without the first that the grain sent
abbrev pub without_first : Grain → List Send → List Send
without_first grain [] = []
without_first grain (sent ∷ sends) = if grain_eq sent.source grain then sends else sent ∷ without_first grain sends

-- the place of the first that the grain sent
abbrev pub first_place : Grain → List Sent → Option ℕ
first_place grain [] = None
first_place grain (sent ∷ sends) = if grain_eq sent.source grain then Some 0 else option_map (λ place. suc place) (first_place grain sends)

-- That is the first call that the grain sent, and the others are those without it; or the grain sent none.
abbrev pub FindsSend : Grain → List Send → Option (Bor Sent) → Type 0
FindsSend grain sends None = first_from grain sends ≡ None
FindsSend grain sends (Some found) = first_from grain sends ≡ Some (send_of found.now, without_first grain sends)
