-- What becomes of an activation where a request comes.
use Rattle.std.specs.Prelude.{◌≡◌, ℕ, false, [], ◌∷◌, ◌++◌}
use Rattle.std.specs.FinMap as map
use Rattle.grain_id.specs.Names.{Grain, grain_cmp}
use Rattle.turn_mailbox.specs.declared.request.Request.{Request}
use Rattle.activation_directory.specs.declared.activation.Activation.{Activation}
use Rattle.activation_directory.specs.declared.activation.Phase.TheVariants.{Waiting}
use Rattle.silo_model.specs.Machine as model
use Rattle.silo_model.specs.Machine.{Entries}
use Rattle.silo_model.specs.Calls.{with_request}

-- the request waits last, in a mailbox of this capacity, and the activation was last used at this moment
abbrev pub arrived : Activation → ℕ → Request → ℕ → Activation
arrived a capacity request clock =
    record a { mailbox = record a.mailbox { waiting = a.mailbox.waiting ++ request ∷ []; capacity = capacity }; last = clock }

-- It waits to be activated, and the request alone waits at it.
abbrev pub IsFirst : Request → ℕ → Activation → Type 0
IsFirst request clock a =
    a ≡ record {
      phase = Waiting;
      mailbox = record { waiting = request ∷ []; opened = map.empty; capacity = a.mailbox.capacity };
      last = clock;
      until = 0;
      resting = false;
      noted = 0;
    }

-- the request waits last at the grain, from this moment on
abbrev pub with_waiting : Entries → Grain → model.Request → ℕ → Entries
with_waiting entries grain request clock = map.insert entries grain (with_request clock request (map.get entries grain))
