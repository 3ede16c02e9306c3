-- The first difference of a tenant, by where its machine was compared with what was recorded.
use Rattle.silo_model.proofs.Common.{◌∙◌, ◌≡◌, AllByRecursion, Limits, List, Logic, Machine, None, Option, Some, Step, ap, concerns, limits_of, machine_all_done, start_of, subst, sym, true, ℕ}
use Rattle.std.proofs.lemmas.List.Elements.{filter_passes, recursion_from_All}
use Rattle.grain_storage.specs.Memory.{rows_of}
use Rattle.journal_text.specs.Text.{History}
use Rattle.audit_model.specs.Difference.{Difference, at_step, at_reply, at_row}
use Rattle.audit_model.specs.Parts.{setup_of, steps_for, replies_for, rows_for}
use Rattle.audit_model.specs.Report.{IsFirstDifference}
use Rattle.tenant_audit.specs.inside.Comparison.{Stops, AreApart}
use Rattle.tenant_machine.specs.Machines.{start_with}
use Rattle.tenant_audit.proofs.Starts.{start_alone}

-- the tenant's machine starts with the journal's ages, and the limits that its table has
pub starts : (journal : History) (tenant : List ℕ) (limits : Option Limits) (start : Machine) → start ≡ start_with tenant limits journal.age journal.ages → limits ≡ limits_of journal.tenants tenant → start ≡ start_of (setup_of journal) tenant
starts journal tenant limits start started listed = started ∙ sym (start_alone journal.tenants tenant limits journal.age journal.ages (sym listed))

pub starts_as : (journal : History) (tenant : List ℕ) (start : Machine) → start ≡ start_of (setup_of journal) tenant → start.tenant ≡ tenant
unfolding start_of
starts_as journal tenant start is = ap (λ (m : Machine). m.tenant) is

-- the machine is handed steps that concern it
pub all_concern : (journal : History) (tenant : List ℕ) (start : Machine) → start ≡ start_of (setup_of journal) tenant → (steps : List Step) → steps ≡ steps_for tenant journal
    → AllByRecursion (λ step. concerns start.tenant step ≡ true) steps
all_concern journal tenant start is steps taken =
    subst (λ (t : List ℕ). AllByRecursion (λ step. concerns t step ≡ true) steps) (sym (starts_as journal tenant start is))
    (subst (AllByRecursion (λ step. concerns tenant step ≡ true)) (sym taken) (recursion_from_All _ (steps_for tenant journal) (filter_passes (concerns tenant) journal.steps)))

module _ (logic : Logic) (journal : History) (tenant : List ℕ) (start end : Machine) (is : start ≡ start_of (setup_of journal) tenant) (steps : List Step) (taken : steps ≡ steps_for tenant journal) where
  -- where the machine stopped, it stops from the journal's setup
  pub stops_so : (place : Option ℕ) → Stops logic start steps place end → Stops logic (start_of (setup_of journal) tenant) (steps_for tenant journal) place end
  stops_so place stops =
      subst (λ (m : Machine). Stops logic m (steps_for tenant journal) place end) is
      (subst (λ (list : List Step). Stops logic start list place end) taken stops)

  -- all its steps were done, and then the records are compared
  pub apart_differs : (place : Option ℕ) → place ≡ None → Stops logic start steps place end → (d : Option Difference) → AreApart (replies_for tenant journal) (rows_of (rows_for tenant journal)) end d → IsFirstDifference logic journal tenant d
  apart_differs place none stops = by_place
    where
      done : machine_all_done logic (start_of (setup_of journal) tenant) (steps_for tenant journal) ≡ Some end
      done = subst (λ (p : Option ℕ). Stops logic (start_of (setup_of journal) tenant) (steps_for tenant journal) p end) none (stops_so place stops)

      by_place : (d : Option Difference) → AreApart (replies_for tenant journal) (rows_of (rows_for tenant journal)) end d → IsFirstDifference logic journal tenant d
      by_place (Some (at_step n)) h = absurd h
      by_place (Some (at_reply n)) h = (end, done, h)
      by_place (Some (at_row grain)) h = (end, done, h)
      by_place None h = (end, done, h)
