-- A ready activation and its open turn, seen as an entry's.
use Rattle.std.proofs.Common.{◌≡◌, ℕ, Option, None, Some, refl, ap, ◌∙◌}
use Rattle.std.specs.FinMap as map
use Rattle.grain_id.specs.Names.{Grain}
use Rattle.request_codec.specs.Tree.{Tree}
use Rattle.request_codec.specs.Call.{Call}
use Rattle.turn_mailbox.specs.declared.request.Request.{Request}
use Rattle.activation_directory.specs.declared.activation.Activation.{Activation}
use Rattle.activation_directory.specs.declared.activation.Phase.TheVariants.{Ready}
use Rattle.silo_model.specs.Machine.{Entry}
use Rattle.silo_state.specs.Shown.{request_of, phase_of, entry_of}
use Rattle.silo_state.specs.Finds.{open_in, IsOpen, IsOpenTurn, IsOwn, turn_of}
use Rattle.silo_state.specs.declared.finding.GrainAtClose.{GrainAtClose}
use Rattle.silo_state.proofs.Shows.{get-turns}

module _ (a : Activation) (state : Tree) (version : Option ℕ) (is_ready : a.phase ≡ Ready state version) (turn : ℕ) where
  pub not_open : map.get a.mailbox.opened turn ≡ None → open_in (entry_of a) turn (phase_of a.phase) ≡ None
  not_open none = ap (λ p. open_in (entry_of a) turn (phase_of p)) is_ready ∙ get-turns a turn None none

  pub is_open : (request : Request) → map.get a.mailbox.opened turn ≡ Some request → IsOpen (Some (entry_of a)) turn (entry_of a) state version (request_of request)
  is_open request found = record { found_is = refl; phase_is = ap phase_of is_ready; open_turn = get-turns a turn (Some request) found }

-- the turn of its message and its state is its own
pub own_turn : (grain : Grain) (found : Option Entry) (turn : ℕ) (state : Tree) (message : Call) (at_close : GrainAtClose) → IsOpenTurn found turn state message at_close
    → IsOwn grain found turn at_close.version at_close.idle_after (turn_of grain turn state message)
own_turn grain found turn state message at_close o = record {
  entry = o.entry;
  state = state;
  request = o.request;
  is_open = o.is_open;
  idle_after_is = o.idle_after_is;
  is_of = record { kind_is = refl; state_is = refl; message_is = o.message_is };
}
