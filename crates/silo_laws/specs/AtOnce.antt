-- A call that is answered at once is answered with its value: with good luck the turn isn't given up.
use Rattle.std.specs.Prelude.{◌++◌, ◌+ℤ◌, ◌∷◌, ◌≡◌, List, Ok, ℕ, ℤ, [], true}
use Rattle.grain_id.specs.Names.{Client, Grain}
use Rattle.request_codec.specs.Tree.{integer}
use Rattle.grain_logic.specs.Adding.{fits_64}
use Rattle.grain_logic.specs.Counters.{counters}
use Rattle.silo_event.specs.declared.reply.Party.TheVariants as party
use Rattle.silo_event.specs.declared.step.Step.TheVariants.{Call}
use Rattle.silo_model.specs.Calls.{told}
use Rattle.silo_model.specs.Whole.{Whole}
use Rattle.silo_model.specs.Opening.{Setup, opening}
use Rattle.silo_model.specs.FirstCall.{add_call, first_call}
use Rattle.answer_model.specs.Answering.{Asked, all_answered, answering, whole_stepper}
use Rattle.answer_model.specs.Certain.{AllWell}
use Rattle.silo_laws.specs.Counting.{MayCount, second_call}

-- a number is to be added to a counter; nothing is said of luck, which is good then
abbrev pub asked_to_add : Client → ℕ → Grain → ℤ → Asked
asked_to_add caller id grain n = record { step = Call caller id grain (add_call n); lucks = [] }

-- what a silo of counters is that opened so, when these were answered, with at most so many deliveries behind each
abbrev pub answered_from : Setup → ℕ → List Asked → Whole
answered_from setup deliveries all = all_answered (whole_stepper counters) deliveries (opening setup) all

-- The steps that are taken for a new counter's first call are the five of the first call, all went well, and the one reply is
-- the number.
abbrev pub FirstCallAtOnce : Type 0
FirstCallAtOnce = (setup : Setup) (caller : Client) (id : ℕ) (grain : Grain) (n : ℤ) (deliveries : ℕ) → MayCount setup caller grain
    → fits_64 n ≡ true
    → (answering (whole_stepper counters) deliveries (opening setup) (asked_to_add caller id grain n) ≡ first_call caller id grain n)
    × AllWell (first_call caller id grain n)
    × ((answered_from setup deliveries (asked_to_add caller id grain n ∷ [])).replies ≡ told (party.Client caller id) (Ok (integer n)))

-- For a second call of it they are the three of the second call, and its reply is the sum: a grain that is up isn't loaded again.
abbrev pub SecondCallAtOnce : Type 0
SecondCallAtOnce = (setup : Setup) (caller : Client) (id second : ℕ) (grain : Grain) (n k : ℤ) (deliveries : ℕ)
    → MayCount setup caller grain → fits_64 n ≡ true → fits_64 (n +ℤ k) ≡ true
    → (answering (whole_stepper counters) deliveries (answered_from setup deliveries (asked_to_add caller id grain n ∷ []))
    (asked_to_add caller second grain k)
    ≡ second_call caller second grain k)
    × ((answered_from setup deliveries (asked_to_add caller id grain n ∷ asked_to_add caller second grain k ∷ [])).replies
    ≡ told (party.Client caller id) (Ok (integer n)) ++ told (party.Client caller second) (Ok (integer (n +ℤ k))))
