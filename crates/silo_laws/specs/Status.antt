-- What a status tells.
use Rattle.std.specs.Prelude.{◌++◌, ◌+ℤ◌, ◌∷◌, ◌≡◌, List, Ok, ℕ, ℤ, [], codes, pos, true}
use Rattle.grain_id.specs.Names.{Client, Grain}
use Rattle.request_codec.specs.Tree.{Tree, field, integer, map, no_fields}
use Rattle.grain_logic.specs.Adding.{fits_64}
use Rattle.grain_logic.specs.Counters.{counters}
use Rattle.silo_event.specs.declared.step.Step.{Step}
use Rattle.silo_event.specs.declared.step.Step.TheVariants.{Status, Tick}
use Rattle.silo_event.specs.declared.reply.Party.TheVariants as party
use Rattle.silo_model.specs.Calls.{told}
use Rattle.silo_model.specs.Whole.{Whole}
use Rattle.silo_model.specs.Opening.{Setup}
use Rattle.silo_model.specs.Journal.{LeadsTo}
use Rattle.silo_model.specs.FirstCall.{first_call}
use Rattle.silo_laws.specs.Counting.{MayCount, second_call}

-- `{"activations": .., "clock": .., "requests": ..}`
abbrev pub counts : ℕ → ℕ → ℕ → Tree
counts activations clock requests = map (field (codes "activations") (integer (pos activations))
    (field (codes "clock") (integer (pos clock)) (field (codes "requests") (integer (pos requests)) no_fields)))

-- two calls of one counter, then the clock is set, and then a status is asked for
abbrev pub calls_and_status : Client → ℕ → ℕ → ℕ → Grain → ℤ → ℤ → ℕ → List Step
calls_and_status caller id second third grain n k now =
    (first_call caller id grain n ++ second_call caller second grain k) ++ Tick now ∷ Status caller third ∷ []

-- After two calls of a new counter a status tells one activation, what the clock was set to, and two requests.
abbrev pub StatusTells : Type 0
StatusTells = (setup : Setup) (caller : Client) (id second third : ℕ) (grain : Grain) (n k : ℤ) (now : ℕ) → MayCount setup caller grain
    → fits_64 n ≡ true → fits_64 (n +ℤ k) ≡ true
    → (w : Whole) × LeadsTo counters setup (calls_and_status caller id second third grain n k now) w
    × (w.replies
    ≡ (told (party.Client caller id) (Ok (integer n)) ++ told (party.Client caller second) (Ok (integer (n +ℤ k))))
    ++ told (party.Client caller third) (Ok (counts 1 now 2)))
