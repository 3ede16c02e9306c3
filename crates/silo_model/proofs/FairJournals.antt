-- What holds of every whole that a journal leads to, where methods that only read ask nothing of the storage.
use Rattle.silo_model.proofs.Common.{◌∙◌, ◌∷◌, ◌≡◌, ◌≢◌, AreAnswers, List, Logic, None, Option, Some, Step, Whole, [], all_done, none-some}
use Rattle.silo_model.proofs.Common.{opening, option_and_then, refl, restricted_to, shown_to, subst, sym, unwrap_or, whole_step}
use Rattle.silo_model.specs.Exclusive.{JournalsAreExclusive, done_answers}
use Rattle.silo_model.specs.Settled.{JournalsSettle, Settled}
use Rattle.silo_model.proofs.Journals.{journals_replay}
use Rattle.silo_model.proofs.FairRuns.{runs_settle}
use Rattle.silo_model.proofs.ExclusiveRuns.{runs_are_exclusive}

-- ---- the turn rule, and settled requests

are_done : (logic : Logic) (w after : Whole) (steps : List Step) → all_done logic w steps ≡ Some after → AreAnswers logic w steps (done_answers steps)
are_done logic w after [] e = tt
are_done logic w after (s ∷ steps) e = by_step (whole_step logic w s) refl e (λ next rest. are_done logic next after steps rest)
  where
    by_step : (r : Option Whole) → whole_step logic w s ≡ r → option_and_then (λ x. all_done logic x steps) r ≡ Some after → ((next : Whole) → all_done logic next steps ≡ Some after → AreAnswers logic next steps (done_answers steps))
        → (whole_step logic w s ≢ None) × AreAnswers logic (unwrap_or (whole_step logic w s) w) steps (done_answers steps)
    by_step None is h rest = absurd (none-some after h)
    by_step (Some next) is h rest = (λ none. none-some next (sym none ∙ is), subst (λ o. AreAnswers logic (unwrap_or o w) steps (done_answers steps)) (sym is) (rest next h))

pub journals_are_exclusive : JournalsAreExclusive
journals_are_exclusive logic law setup journal w leads = runs_are_exclusive logic law setup journal (done_answers journal) (are_done logic (opening setup) w journal leads)

pub journals_settle : JournalsSettle
journals_settle logic law setup journal w tenant leads =
    subst (λ (x : Whole). Settled (restricted_to tenant journal) (shown_to tenant x)) (journals_replay logic setup journal w leads) (runs_settle logic law setup tenant journal)
