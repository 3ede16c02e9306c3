-- Lines, if no call of the storage failed.
use Rattle.std.proofs.Common.{◌≡◌, ℕ, ◌+◌, Bool, true, false, cond, List, [], ◌∷◌, ◌++◌, refl, ap, ap₂, arith}
use Rattle.silo_event.specs.Failed.{marked_step}
use Rattle.silo_event.specs.declared.step.Answer.{Answer}
use Rattle.silo_event.specs.declared.step.Answer.TheVariants.{Done, Failed, NotNow}
use Rattle.silo_event.specs.declared.step.Step.{Step}
use Rattle.grain_logic.specs.Logic.{Logic}
use Rattle.silo_model.specs.Run.{concerns, answers_to}
use Rattle.silo_core.specs.History.{History, Failures}
use Rattle.silo_core.specs.Runs.{failed_in, Takes}
use Rattle.silo_core.proofs.Runs.{failed_in-append}
use Rattle.line_text.specs.LineTexts.{steps_said, as_taken, lines_to}
use Rattle.line_parser.specs.declared.line.Line.{Line}
use Rattle.line_parser.specs.declared.line.Line.TheVariants as line
use Rattle.line_text.proofs.Saids.{EachAnswered}

-- ---- that none failed

-- nothing was counted, so none failed
pub none_failed : (logic : Logic) (old new : History) (steps : List Step) (given : List Answer) → Takes logic old steps given new → new.failures.now ≡ 0 → failed_in given ≡ 0
none_failed logic old new steps given t zero = omega (arith, ap (λ (f : Failures). f.now) t.failures, zero)

pub none_failed_before : (given more : List Answer) → failed_in (given ++ more) ≡ 0 → failed_in given ≡ 0
none_failed_before given more zero = omega (arith, failed_in-append given more, zero)

first_unfailed : (s : Step) (a : Answer) (given : List Answer) → failed_in (a ∷ given) ≡ 0 → (marked_step s a ≡ s) × (failed_in given ≡ 0)
first_unfailed s Done given zero = let first : failed_in (Done ∷ given) ≡ 0 + failed_in given = failed_in-append (Done ∷ []) given in (refl, omega (arith, first, zero))
first_unfailed s Failed given zero = let first : failed_in (Failed ∷ given) ≡ 1 + failed_in given = failed_in-append (Failed ∷ []) given in absurd (omega (arith, first, zero))
first_unfailed s NotNow given zero = let first : failed_in (NotNow ∷ given) ≡ 0 + failed_in given = failed_in-append (NotNow ∷ []) given in (refl, omega (arith, first, zero))

-- ---- then all is taken as it was said

pub unmarked : (saids : List Line) (given : List Answer) → EachAnswered saids given → failed_in given ≡ 0 → as_taken saids given ≡ saids
unmarked [] given each zero = refl
unmarked (line.Nothing ∷ saids) given each zero = ap (λ (rest : List Line). line.Nothing ∷ rest) (unmarked saids given each zero)
unmarked (line.Refusal r ∷ saids) given each zero = ap (λ (rest : List Line). line.Refusal r ∷ rest) (unmarked saids given each zero)
unmarked (line.Step s ∷ saids) [] each zero = absurd (cc (each))
unmarked (line.Step s ∷ saids) (a ∷ given) each zero =
    let first = first_unfailed s a given zero in
    ap₂ (λ (r : Step) (rest : List Line). line.Step r ∷ rest) first.0 (unmarked saids given (cc (each)) first.1)

own_first : (s : Step) (a : Answer) (own : List Line) (answers : List Answer) (b : Bool) → marked_step s a ≡ s → as_taken own answers ≡ own
    → as_taken (cond b (line.Step s ∷ own) own) (cond b (a ∷ answers) answers) ≡ cond b (line.Step s ∷ own) own
own_first s a own answers true same rest = ap₂ (λ (r : Step) (others : List Line). line.Step r ∷ others) same rest
own_first s a own answers false same rest = rest

-- the lines of one tenant too
pub own_unmarked : (tenant : List ℕ) (saids : List Line) (given : List Answer) → EachAnswered saids given → failed_in given ≡ 0
    → as_taken (lines_to tenant saids) (answers_to tenant (steps_said saids) given) ≡ lines_to tenant saids
own_unmarked tenant [] given each zero = refl
own_unmarked tenant (line.Nothing ∷ saids) given each zero = ap (λ (rest : List Line). line.Nothing ∷ rest) (own_unmarked tenant saids given each zero)
own_unmarked tenant (line.Refusal r ∷ saids) given each zero = ap (λ (rest : List Line). line.Refusal r ∷ rest) (own_unmarked tenant saids given each zero)
own_unmarked tenant (line.Step s ∷ saids) [] each zero = absurd (cc (each))
own_unmarked tenant (line.Step s ∷ saids) (a ∷ given) each zero =
    let first = first_unfailed s a given zero in
    own_first s a (lines_to tenant saids) (answers_to tenant (steps_said saids) given) (concerns tenant s) first.0 (own_unmarked tenant saids given (cc (each)) first.1)
