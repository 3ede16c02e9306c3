-- Between two things that are asked nothing waits and nothing is open, and each client is answered at once.
use Rattle.std.specs.Prelude.{◌≡◌, ℕ, true, List, [], ◌∷◌, ◌++◌, Option, Some, None, Result}
use Rattle.grain_id.specs.Names.{Client}
use Rattle.request_codec.specs.Tree.{Tree}
use Rattle.silo_event.specs.Asker.{asking_of}
use Rattle.silo_event.specs.declared.fault.Fault.{Fault}
use Rattle.silo_event.specs.declared.reply.Party.{Party}
use Rattle.silo_event.specs.declared.reply.Party.TheVariants as party
use Rattle.silo_event.specs.declared.reply.Reply.{Reply}
use Rattle.silo_event.specs.declared.step.Step.{Step}
use Rattle.grain_logic.specs.Logic.{Logic}
use Rattle.silo_model.specs.Calls.{told}
pub use Rattle.silo_model.specs.Collected.{AllIdle}
use Rattle.silo_model.specs.Opening.{Setup}
use Rattle.silo_model.specs.Journal.{LeadsTo}
use Rattle.silo_model.specs.Whole.{Whole}
use Rattle.answer_model.specs.Answering.{Asked, answered, is_asked, whole_stepper}

-- each of the replies is told to a grain
abbrev pub IsToGrain : Party → Type 0
IsToGrain (party.Client client id) = ⊥
IsToGrain (party.Grain grain) = Unit {0}

abbrev pub AllToGrains : List Reply → Type 0
AllToGrains [] = Unit {0}
AllToGrains (r ∷ replies) = IsToGrain r.recipient × AllToGrains replies

-- The replies that are new: the first is the client's, under this number, and all others are told to grains.
pub record TellsFirst (client : Client) (id : ℕ) (old new : List Reply) : Type 0 where
  pub outcome : Result Tree Fault
  pub others : List Reply
  pub replies : new ≡ old ++ told (party.Client client id) outcome ++ others
  pub to_grains : AllToGrains others

-- by who asks: a client is told first; and if nobody asks, nobody is told anything
abbrev pub TellsAsker : Option (Client × ℕ) → List Reply → List Reply → Type 0
TellsAsker None old new = new ≡ old
TellsAsker (Some asking) old new = TellsFirst asking.0 asking.1 old new

-- From where a journal leads and where all is idle, whatever is asked and with whatever luck: all is idle again, and who asked was
-- answered.
abbrev pub AnsweredAtOnce : Type 0
AnsweredAtOnce = (logic : Logic) (setup : Setup) (journal : List Step) (w : Whole) (n : ℕ) (asked : Asked)
    → LeadsTo logic setup journal w → AllIdle w.entries → is_asked asked.step ≡ true
    → AllIdle (answered (whole_stepper logic) n w asked).entries
    × TellsAsker (asking_of asked.step) w.replies (answered (whole_stepper logic) n w asked).replies
