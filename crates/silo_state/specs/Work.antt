-- What there is to do at a grain.
use Rattle.std.specs.Prelude.{ℕ, Bool, true, false, List, [], ◌∷◌, Option, Some, None, flat_map, if◌then◌else◌}
use Rattle.std.specs.List.{list_any}
use Rattle.std.specs.FinMap as map
use Rattle.grain_id.specs.Names.{Client, Grain}
use Rattle.silo_event.specs.declared.step.Step.{Step}
use Rattle.silo_event.specs.declared.step.Step.TheVariants as step
use Rattle.turn_mailbox.specs.Contents.{Contents, may_begin}
use Rattle.activation_directory.specs.declared.activation.Phase.{Phase}
use Rattle.activation_directory.specs.declared.activation.Phase.TheVariants.{Waiting, Loading, Ready}
use Rattle.silo_model.specs.Machine.{Entry, Entries, Request}
use Rattle.silo_model.specs.Pending.{is_of_client}
use Rattle.silo_model.specs.Settled.{pending_at}
use Rattle.silo_model.specs.Whole.{is_of}
use Rattle.silo_state.specs.Reads.{is_quiet}
use Rattle.silo_state.specs.declared.change.PossibleStep.{PossibleStep}
use Rattle.silo_state.specs.declared.change.PossibleStep.TheVariants.{Activate, Load, Begin}

-- the step that does it
abbrev pub step_at : Grain → PossibleStep → Step
step_at grain Activate = step.Activate grain
step_at grain Load = step.Load grain false
step_at grain Begin = step.Begin grain

-- what is to do with an activation: by its phase, and by whether its first waiting request may begin
abbrev pub work_at : Contents → Phase → Option PossibleStep
work_at mail Waiting = Some Activate
work_at mail Loading = Some Load
work_at mail (Ready state version) = if may_begin mail then Some Begin else None

-- there is no entry, or no request waits or is open in it
abbrev pub is_settled : Option Entry → Bool
is_settled None = true
is_settled (Some e) = is_quiet e

-- the number of the first of these requests
abbrev pub first_number : List Request → Option ℕ
first_number [] = None
first_number (first ∷ others) = Some first.number

-- the number of the first request that waits, if there is an entry and one waits
abbrev pub first_waiting : Option Entry → Option ℕ
first_waiting None = None
first_waiting (Some e) = first_number e.queue

-- a request of the client waits or is open at a grain of its tenant
abbrev pub pending_in_part : Client → Entries → Bool
pending_in_part client entries =
    list_any (λ q. is_of_client client q.sender) (flat_map pending_at (map.values (map.retain_keys entries (is_of client.tenant))))
