-- How the parts of a silo's state are seen by the definitions.
use Rattle.std.specs.Prelude.{map as map_list}
use Rattle.std.specs.FinMap.{FinMap}
use Rattle.grain_id.specs.Names.{grain_cmp}
use Rattle.turn_mailbox.specs.declared.request.Request.{Request}
use Rattle.finite_maps.specs.Mapped.{map_values}
use Rattle.activation_directory.specs.declared.activation.Activation.{Activation}
use Rattle.activation_directory.specs.declared.activation.Phase.{Phase}
use Rattle.activation_directory.specs.declared.activation.Phase.TheVariants.{Waiting, Loading, Ready}
use Rattle.silo_model.specs.Machine as model
use Rattle.silo_model.specs.Machine.{Entry, Entries, waiting, loading, ready}

-- a request, without its mark
abbrev pub request_of : Request → model.Request
request_of r = record { number = r.number; sender = r.sender; call = r.message }

abbrev pub phase_of : Phase → model.Phase
phase_of Waiting = waiting
phase_of Loading = loading
phase_of (Ready state version) = ready state version

-- an activation, as an entry
abbrev pub entry_of : Activation → Entry
entry_of a = record {
  phase = phase_of a.phase;
  queue = map_list request_of a.mailbox.waiting;
  turns = map_values request_of a.mailbox.opened;
  last = a.last;
  until = a.until;
  resting = a.resting;
}

-- all activations, as entries
abbrev pub entries_of : FinMap grain_cmp Activation → Entries
entries_of activations = map_values entry_of activations
