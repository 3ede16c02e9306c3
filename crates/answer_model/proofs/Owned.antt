-- Steps that are all one tenant's: its own machine takes them all, and no other part changes.
use Rattle.silo_model.proofs.Common.{◌∙◌, ◌∷◌, ◌≡◌, ◌≢◌, AllByRecursion, List, Logic, Setup, Some, Step, Whole, [], ap, concerns_by, cond}
use Rattle.silo_model.proofs.Common.{machine_run, owner_of, refl, restricted_to, shown_to, sym, whole_run, ℕ}
use Rattle.silo_model.proofs.Contexts.{same_text-apart, same_text-itself}
use Rattle.silo_model.proofs.Journals.{runs_on}
use Rattle.answer_model.proofs.Reached.{IsReached}

abbrev pub AllOwned : List ℕ → List Step → Type 0
AllOwned owner steps = AllByRecursion (λ s. owner_of s ≡ Some owner) steps

all_concern : (owner : List ℕ) (steps : List Step) → AllOwned owner steps → restricted_to owner steps ≡ steps
all_concern owner [] own = refl
all_concern owner (s ∷ steps) own =
    ap (λ b. cond b (s ∷ restricted_to owner steps) (restricted_to owner steps)) (ap (concerns_by owner) own.0 ∙ same_text-itself owner)
    ∙ ap (λ k. s ∷ k) (all_concern owner steps own.1)

none_concerns : (owner tenant : List ℕ) (steps : List Step) → tenant ≢ owner → AllOwned owner steps → restricted_to tenant steps ≡ []
none_concerns owner tenant [] apart own = refl
none_concerns owner tenant (s ∷ steps) apart own =
    ap (λ b. cond b (s ∷ restricted_to tenant steps) (restricted_to tenant steps)) (ap (concerns_by tenant) own.0 ∙ same_text-apart owner tenant (λ same. apart (sym same)))
    ∙ none_concerns owner tenant steps apart own.1

module _ (logic : Logic) (setup : Setup) (w : Whole) (reached : IsReached logic setup w) (owner : List ℕ) (steps : List Step) (own : AllOwned owner steps) where
  pub own_run : shown_to owner (whole_run logic w steps) ≡ machine_run logic (shown_to owner w) steps
  own_run = runs_on logic setup reached.0 w owner steps reached.1 ∙ ap (machine_run logic (shown_to owner w)) (all_concern owner steps own)

  pub other_run : (tenant : List ℕ) → tenant ≢ owner → shown_to tenant (whole_run logic w steps) ≡ shown_to tenant w
  other_run tenant apart = runs_on logic setup reached.0 w tenant steps reached.1 ∙ ap (machine_run logic (shown_to tenant w)) (none_concerns owner tenant steps apart own)
