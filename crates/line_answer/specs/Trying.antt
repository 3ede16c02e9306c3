-- Steps that are tried one after another in a silo: those that are possible are done.
use Rattle.std.specs.Prelude.{◌≡◌, ℕ, ◌+◌, Bool, true, false, List, [], ◌∷◌, ◌++◌, Option, Some, None, is_some, if◌then◌else◌}
use Rattle.std.specs.FinMap as map
use Rattle.grain_id.specs.Names.{Grain}
use Rattle.silo_event.specs.Failed.{has_failed}
use Rattle.silo_event.specs.declared.step.Step.{Step}
use Rattle.silo_event.specs.declared.step.Step.TheVariants.{Begin}
use Rattle.grain_logic.specs.Logic.{Logic}
use Rattle.silo_model.specs.Machine.{Entry, Request}
use Rattle.silo_model.specs.Whole.{Whole, whole_step}
use Rattle.silo_model.specs.Run.{done_by, whole_run}
use Rattle.silo_core.specs.History.{History, failed_since}
use Rattle.answer_model.specs.Answering.{Closing, Luck, all_have_memory, answering, bringing, closing, given_up_if, has_memory, is_closed}
use Rattle.answer_model.specs.Answering.{out_of_memory, raising, serving, taken, taken_by, whole_stepper}

-- how many of the steps have the mark of a failure
abbrev pub failed_among : List Step → ℕ
failed_among [] = 0
failed_among (s ∷ steps) = (if has_failed s then 1 else 0) + failed_among steps

-- The steps were tried, and led from the old history to the new one: those that were done stand in the journal, and so many calls of the
-- storage failed as have the mark.
pub record Tries (logic : Logic) (old : History) (steps : List Step) (new : History) : Type 0 where
  pub setup : new.setup ≡ old.setup
  pub whole : new.whole ≡ whole_run logic old.whole steps
  pub journal : new.journal ≡ old.journal ++ done_by (whole_step logic) old.whole steps
  pub failures : new.failures ≡ failed_since (failed_among (done_by (whole_step logic) old.whole steps)) old.failures

abbrev pub is_possible : Logic → Whole → Step → Bool
is_possible logic w s = is_some (whole_step logic w s)

-- The step was possible, and was taken, with the mark of a failure if the storage failed; or it isn't possible, and nothing changed.
abbrev pub TakesNow : Logic → History → Step → Bool → History → Type 0
TakesNow logic old s true new = (failed : Bool) × Tries logic old (taken_by failed s ∷ []) new
    × (is_possible logic old.whole (taken_by failed s) ≡ true)
TakesNow logic old s false new = (is_possible logic old.whole s ≡ false) × (new ≡ old)

-- The first request that waits at the grain has this number.
pub record IsFirst (w : Whole) (grain : Grain) (number : ℕ) : Type 0 where
  pub entry : Entry
  pub first : Request
  pub others : List Request
  pub found : map.get w.entries grain ≡ Some entry
  pub queue : entry.queue ≡ first ∷ others
  pub numbered : first.number ≡ number

-- A turn began, of the request of this number; or none can begin, and nothing changed.
abbrev pub Begins : Logic → History → Grain → Option ℕ → History → Type 0
Begins logic old grain None new = (is_possible logic old.whole (Begin grain) ≡ false) × (new ≡ old)
Begins logic old grain (Some number) new = Tries logic old (Begin grain ∷ []) new × (is_possible logic old.whole (Begin grain) ≡ true)
    × IsFirst old.whole grain number

-- The grain was brought up, if it waited for that; and then a turn began, or none can begin.
abbrev pub Opens : Logic → History → Grain → Option ℕ → History → Type 0
Opens logic old grain turn new =
    (mid : History) × ((failed : Bool) × Tries logic old (raising (whole_stepper logic) old.whole grain failed) mid)
    × Begins logic mid grain turn new

-- how the turn is closed, if it may have to be given up
abbrev pub closing_if : Bool → Closing → Closing
closing_if true how = out_of_memory
closing_if false how = how

-- The open turn was closed: it was given up if it was to be; and, by the second truth value, there was memory for its end.
abbrev pub Closes : Logic → History → Grain → ℕ → Bool → Bool → History → Type 0
Closes logic old grain turn gives_up memory new =
    (how : Closing) × Tries logic old (closing (whole_stepper logic) old.whole grain turn (closing_if gives_up how)) new
    × (memory ≡ true → is_closed how ≡ true)

-- The request that waited at the grain was served with some luck, in the same way.
abbrev pub Serves : Logic → History → Grain → Bool → Bool → History → Type 0
Serves logic old grain gives_up memory new =
    (luck : Luck) × Tries logic old (serving (whole_stepper logic) old.whole grain (given_up_if gives_up luck)) new
    × (memory ≡ true → has_memory luck ≡ true)

-- The step was taken and the request that it brought was served, in the same way; and whether the step was possible.
abbrev pub Brings : Logic → History → Step → Option Grain → Bool → Bool → Bool → History → Type 0
Brings logic old s grain gives_up done memory new =
    (luck : Luck)
    × Tries logic old (bringing (whole_stepper logic) old.whole (taken_by luck.asking_failed s) grain (given_up_if gives_up luck)) new
    × (is_possible logic old.whole (taken_by luck.asking_failed s) ≡ done) × (memory ≡ true → has_memory luck ≡ true)

-- A call is the third step from the end, as one is that was served at once last.
abbrev pub EndsIn : List Step → Step → Type 0
EndsIn journal call = (before : List Step) × (begin : Step) × (end : Step) × (journal ≡ before ++ call ∷ begin ∷ end ∷ [])

-- What is asked was answered with some luck; and whether its step was possible.
pub record AnswersAsked (logic : Logic) (n : ℕ) (old : History) (s : Step) (done : Bool) (new : History) : Type 0 where
  pub lucks : List Luck
  pub tries : Tries logic old (answering (whole_stepper logic) n old.whole (record { step = s; lucks = lucks })) new
  pub possible : is_possible logic old.whole (taken (record { step = s; lucks = lucks })) ≡ done

-- The same; and there was memory, if so it says, to close the turns that came of it.
pub record AnswersBy (logic : Logic) (n : ℕ) (old : History) (s : Step) (done memory : Bool) (new : History) : Type 0 where
  pub answers : AnswersAsked logic n old s done new
  pub had : memory ≡ true → all_have_memory answers.lucks ≡ true
