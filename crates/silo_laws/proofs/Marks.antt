-- A step is marked as failed where it says so, and where it was answered so.
use Rattle.silo_model.proofs.Common.{◌≡◌, ◌∷◌, Abandon, Activate, Begin, Bool, Call, Deliver, End, List, Load, Option, Poke, Refuse, Status, Step, Store}
use Rattle.silo_model.proofs.Common.{◌∙◌, Sweep, Tick, [], ap, false, refl, sym, true, true≢false, unwrap_or}
use Rattle.std.specs.Prelude.{map}
use Rattle.silo_event.specs.Failed.{as_failed, has_failed, marked_step, may_fail}
use Rattle.silo_event.specs.declared.step.Answer.{Answer}
use Rattle.silo_event.specs.declared.step.Answer.TheVariants as answer
use Rattle.silo_model.specs.Answers.{AreAnswersBy}
use Rattle.silo_model.specs.Run.{marked}
use Rattle.silo_model.specs.Whole.{whole_step}
use Rattle.silo_laws.specs.Marks.{FailuresMarked, failures}

fails : (s : Step) → may_fail s ≡ true → has_failed (as_failed s) ≡ true
fails (Refuse caller id code) may = absurd (true≢false (sym may))
fails (Call caller id g call) may = absurd (true≢false (sym may))
fails (Poke failed caller id g state) may = refl
fails (Status caller id) may = absurd (true≢false (sym may))
fails (Deliver g) may = absurd (true≢false (sym may))
fails (Activate g) may = absurd (true≢false (sym may))
fails (Load g failed) may = refl
fails (Begin g) may = absurd (true≢false (sym may))
fails (Store g turn failed) may = refl
fails (End g turn) may = absurd (true≢false (sym may))
fails (Abandon g turn) may = absurd (true≢false (sym may))
fails (Tick now) may = absurd (true≢false (sym may))
fails Sweep may = absurd (true≢false (sym may))

module _ {M : Type 0} (step : M → Step → Option M) where
  marks : (m : M) (steps : List Step) (answers : List Answer) → AreAnswersBy step m steps answers → map has_failed (marked steps answers) ≡ failures steps answers
  marks m [] answers are = refl
  marks m (s ∷ steps) [] are = refl
  marks m (s ∷ steps) (answer.Done ∷ answers) are = ap (λ l. has_failed s ∷ l) (marks (unwrap_or (step m s) m) steps answers are.1)
  marks m (s ∷ steps) (answer.NotNow ∷ answers) are = ap (λ l. has_failed s ∷ l) (marks (unwrap_or (step m s) m) steps answers are.1)
  marks m (s ∷ steps) (answer.Failed ∷ answers) are =
      ap (λ l. has_failed (as_failed s) ∷ l) (marks (unwrap_or (step m (as_failed s)) m) steps answers are.1)
      ∙ ap (λ b. b ∷ failures steps answers) (fails s are.0.0)

pub failures_marked : FailuresMarked
failures_marked logic w = marks (whole_step logic) w
