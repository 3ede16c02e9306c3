-- A second call sees what the first left: the end of a turn leaves its state.
use Rattle.std.specs.Prelude.{◌++◌, ◌+ℤ◌, ◌≡◌, Ok, ℕ, ℤ, true}
use Rattle.grain_id.specs.Names.{Client, Grain}
use Rattle.request_codec.specs.Tree.{integer}
use Rattle.grain_logic.specs.Adding.{fits_64}
use Rattle.grain_logic.specs.Counters.{counters}
use Rattle.silo_event.specs.declared.reply.Party.TheVariants as party
use Rattle.silo_model.specs.Calls.{told}
use Rattle.silo_model.specs.Whole.{Whole}
use Rattle.silo_model.specs.Opening.{Setup}
use Rattle.silo_model.specs.Journal.{LeadsTo}
use Rattle.silo_model.specs.FirstCall.{first_call}
use Rattle.silo_laws.specs.Counting.{MayCount, second_call}

-- If a client adds a number to a new counter and then another, all steps are done; the first reply is the number, and the
-- second is the sum.
abbrev pub SecondCallAnswered : Type 0
SecondCallAnswered = (setup : Setup) (caller : Client) (id second : ℕ) (grain : Grain) (n k : ℤ) → MayCount setup caller grain
    → fits_64 n ≡ true → fits_64 (n +ℤ k) ≡ true
    → (w : Whole) × LeadsTo counters setup (first_call caller id grain n ++ second_call caller second grain k) w
    × (w.replies ≡ told (party.Client caller id) (Ok (integer n)) ++ told (party.Client caller second) (Ok (integer (n +ℤ k))))
