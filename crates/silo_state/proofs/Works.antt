-- What is to do with an activation is what is to do with its entry.
use Rattle.std.proofs.Common.{◌≡◌, Bool, true, false, List, [], ◌∷◌, Some, None, slice_get, refl, ap, ◌∙◌}
use Rattle.std.specs.Prelude.{option_map, if◌then◌else◌, map as map_list}
use Rattle.std.specs.List.{AllByRecursion}
use Rattle.grain_id.specs.Names.{Grain}
use Rattle.grain_logic.specs.Logic.{Logic}
use Rattle.silo_event.specs.declared.step.Step.TheVariants as step
use Rattle.turn_mailbox.specs.declared.request.Request.{Request}
use Rattle.turn_mailbox.specs.Contents.{front_may_open}
use Rattle.activation_directory.specs.declared.activation.Activation.{Activation}
use Rattle.activation_directory.specs.declared.activation.Phase.{Phase}
use Rattle.activation_directory.specs.declared.activation.Phase.TheVariants.{Waiting, Loading, Ready}
use Rattle.silo_model.specs.Todo.{begin_at, work_by}
use Rattle.silo_state.specs.Shown.{request_of, phase_of, entry_of}
use Rattle.silo_state.specs.Marks.{IsMarked, AreMarked}
use Rattle.silo_state.specs.Work.{first_number, step_at, work_at}
use Rattle.silo_state.specs.declared.change.PossibleStep.TheVariants.{Begin}
use Rattle.silo_state.proofs.Requests.{may_open-marked}

stepped : (g : Grain) (b : Bool) → option_map (step_at g) (if b then Some Begin else None) ≡ (if b then Some (step.Begin g) else None)
stepped g true = refl
stepped g false = refl

module _ (logic : Logic) (g : Grain) (a : Activation) (marked : AreMarked logic g a.mailbox) where
  begins-same : (waiting : List Request) → AllByRecursion (IsMarked logic g) waiting
      → option_map (step_at g) (if front_may_open a.mailbox.opened waiting then Some Begin else None) ≡ begin_at logic g (entry_of a) (map_list request_of waiting)
  begins-same [] all = refl
  begins-same (first ∷ others) all =
      stepped g (front_may_open a.mailbox.opened (first ∷ others)) ∙ ap (λ b. if b then Some (step.Begin g) else None) (may_open-marked logic g a marked first all.0)

  pub work-same : (phase : Phase) → option_map (step_at g) (work_at a.mailbox phase) ≡ work_by logic g (entry_of a) (phase_of phase)
  work-same Waiting = refl
  work-same Loading = refl
  work-same (Ready state version) = begins-same a.mailbox.waiting marked.waiting

-- the first that waits has its number in the entry, too
pub first_waits : (waiting : List Request) → first_number (map_list request_of waiting) ≡ option_map (λ (r : Request). r.number) (slice_get waiting 0)
first_waits [] = refl
first_waits (first ∷ others) = refl
