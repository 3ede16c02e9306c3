-- Which turns are open after a list of answered steps, and the rule that a turn that writes is alone.
-- No set of open turns that a silo or a machine keeps is looked at: a turn is open from the Begin that was done until
-- the step that closed it.
use Rattle.std.specs.Prelude.{◌≡◌, ℕ, Bool, false, not, ◌&&◌, List, [], ◌∷◌, ◌++◌, Option, Some, None, filter, ◌==◌, map as map_list}
use Rattle.std.specs.List.{list_any}
use Rattle.std.specs.FinMap as map
use Rattle.grain_id.specs.Names.{Grain, grain_eq}
use Rattle.silo_event.specs.Failed.{marked_step}
use Rattle.silo_event.specs.declared.step.Step.{Step}
use Rattle.silo_event.specs.declared.step.Step.TheVariants.{Begin, Store, End, Abandon}
use Rattle.silo_event.specs.declared.step.Answer.{Answer}
use Rattle.silo_event.specs.declared.step.Answer.TheVariants as answer
use Rattle.grain_logic.specs.Logic.{Logic}
use Rattle.grain_logic.specs.Laws.{ReadersAskNothing}
use Rattle.silo_model.specs.Machine.{Entry, Request}
use Rattle.silo_model.specs.Turns.{reads}
use Rattle.silo_model.specs.Whole.{Whole}
use Rattle.silo_model.specs.Run.{machine_run, restricted_to}
use Rattle.silo_model.specs.Answers.{AreAnswers}
use Rattle.silo_model.specs.Opening.{Setup, opening, start_of}
use Rattle.silo_model.specs.Journal.{LeadsTo}

-- an open turn: its grain, and the request that it runs
pub record OpenTurn : Type 0 where
  pub grain : Grain
  pub request : Request

-- ---- the turns that are open

abbrev pub turn_of_first : Grain → List Request → List OpenTurn
turn_of_first grain [] = []
turn_of_first grain (first ∷ others) = record { grain = grain; request = first } ∷ []

-- the turn of the first request that waits at the grain
abbrev pub first_waiting : Grain → Option Entry → List OpenTurn
first_waiting grain None = []
first_waiting grain (Some e) = turn_of_first grain e.queue

-- the turn that a Begin of the grain opens, as the owner's machine has it after the steps before
abbrev pub turn_begun : Logic → Setup → List Step → Grain → List OpenTurn
turn_begun logic setup before grain =
    first_waiting grain (map.get (machine_run logic (start_of setup grain.tenant) (restricted_to grain.tenant before)).entries grain)

abbrev pub is_turn : Grain → ℕ → OpenTurn → Bool
is_turn grain number turn = grain_eq turn.grain grain && (turn.request.number == number)

abbrev pub turns_without : Grain → ℕ → List OpenTurn → List OpenTurn
turns_without grain number turns = filter (λ t. not (is_turn grain number t)) turns

-- what becomes of them by a step that opens a turn: it opens it if it is done
abbrev pub if_done : {A : Type 0} → Answer → A → A → A
if_done answer.Done then_this else_that = then_this
if_done answer.Failed then_this else_that = else_that
if_done answer.NotNow then_this else_that = else_that

-- by one that closes a turn: it closes it also if the storage failed
abbrev pub if_taken : {A : Type 0} → Answer → A → A → A
if_taken answer.Done then_this else_that = then_this
if_taken answer.Failed then_this else_that = then_this
if_taken answer.NotNow then_this else_that = else_that

abbrev pub turns_after : Logic → Setup → List Step → List OpenTurn → Step → Answer → List OpenTurn
turns_after logic setup before turns (Begin grain) answer = if_done answer (turns ++ turn_begun logic setup before grain) turns
turns_after logic setup before turns (Store grain number failed) answer = if_taken answer (turns_without grain number turns) turns
turns_after logic setup before turns (End grain number) answer = if_taken answer (turns_without grain number turns) turns
turns_after logic setup before turns (Abandon grain number) answer = if_taken answer (turns_without grain number turns) turns
turns_after logic setup before turns _ answer = turns

-- ---- the rule

-- A turn whose method isn't one that only reads is the only open turn of its grain: no other, before it or after it in
-- the list, is of its grain.
abbrev pub WritersAlone : Logic → List OpenTurn → Type 0
WritersAlone logic turns =
    (before after : List OpenTurn) (t : OpenTurn) → turns ≡ before ++ t ∷ after → reads logic t.grain t.request ≡ false
    → list_any (λ u. grain_eq u.grain t.grain) (before ++ after) ≡ false

abbrev pub ExclusiveFrom : Logic → Setup → List Step → List OpenTurn → List Step → List Answer → Type 0
ExclusiveFrom logic setup before turns [] answers = WritersAlone logic turns
ExclusiveFrom logic setup before turns (s ∷ steps) [] = WritersAlone logic turns
ExclusiveFrom logic setup before turns (s ∷ steps) (a ∷ answers) =
    WritersAlone logic turns
    × ExclusiveFrom logic setup (before ++ marked_step s a ∷ []) (turns_after logic setup before turns s a) steps answers

-- it holds at every prefix of the list
abbrev pub Exclusive : Logic → Setup → List Step → List Answer → Type 0
Exclusive logic setup steps answers = ExclusiveFrom logic setup [] [] steps answers

-- ---- the law

-- Whatever the steps of whichever tenants, a turn that may write is alone at every prefix.
abbrev pub RunsAreExclusive : Type 0
RunsAreExclusive = (logic : Logic) → ReadersAskNothing logic → (setup : Setup) (steps : List Step) (answers : List Answer)
    → AreAnswers logic (opening setup) steps answers → Exclusive logic setup steps answers

abbrev pub done_answers : List Step → List Answer
done_answers steps = map_list (λ s. answer.Done) steps

-- It holds at every prefix of a journal, each of whose steps was done.
abbrev pub JournalsAreExclusive : Type 0
JournalsAreExclusive = (logic : Logic) → ReadersAskNothing logic → (setup : Setup) (journal : List Step) (w : Whole)
    → LeadsTo logic setup journal w → Exclusive logic setup journal (done_answers journal)
