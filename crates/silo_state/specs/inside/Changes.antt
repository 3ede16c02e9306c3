-- What becomes of one activation.
use Rattle.std.specs.Prelude.{◌≡◌, ℕ, Bool, false, Option, Some, None, if◌then◌else◌, unwrap_or}
use Rattle.std.specs.FinMap as map
use Rattle.grain_id.specs.Names.{Grain}
use Rattle.grain_logic.specs.Logic.{Keep}
use Rattle.silo_event.specs.declared.opened_turn.OpenedTurn.{OpenedTurn}
use Rattle.turn_mailbox.specs.declared.request.Request.{Request}
use Rattle.turn_mailbox.specs.Contents.{Contents, may_begin, begun, turn_of}
use Rattle.activation_directory.specs.declared.activation.Activation.{Activation}
use Rattle.activation_directory.specs.declared.activation.Phase.{Phase}
use Rattle.activation_directory.specs.declared.activation.Phase.TheVariants.{Waiting, Loading, Ready}
use Rattle.silo_event.specs.declared.reply.Party.{Party}
use Rattle.silo_event.specs.declared.step.Answer.{Answer}
use Rattle.silo_event.specs.declared.step.Answer.TheVariants.{Done, Failed, NotNow}
use Rattle.silo_model.specs.Machine.{waiting}
use Rattle.silo_model.specs.Turns.{activated, until_by, resting_by}
use Rattle.silo_state.specs.Shown.{phase_of, entry_of}

-- It waited, and loads now; or it doesn't wait, and nothing changed.
abbrev pub Starts : Activation → Answer → Activation → Type 0
Starts old Done new = (phase_of old.phase ≡ waiting) × (new ≡ record old { phase = Loading })
Starts old Failed new = ⊥
Starts old NotNow new = (activated (entry_of old) (phase_of old.phase) ≡ None) × (new ≡ old)

-- the turn of its first waiting request, if it is ready and the turn rule allows it
abbrev pub turn_at : Grain → Contents → Phase → Option OpenedTurn
turn_at grain mail Waiting = None
turn_at grain mail Loading = None
turn_at grain mail (Ready state version) = if may_begin mail then turn_of grain state mail.waiting else None

-- whether that turn may be opened
abbrev pub opens_at : Contents → Phase → Bool
opens_at mail Waiting = false
opens_at mail Loading = false
opens_at mail (Ready state version) = may_begin mail

-- its mailbox once that turn is open
abbrev pub mail_begun : Contents → Phase → Contents
mail_begun mail Waiting = mail
mail_begun mail Loading = mail
mail_begun mail (Ready state version) = if may_begin mail then begun mail mail.waiting else mail

-- ---- closing a turn

-- A turn was open and is closed: the activation is in this phase, if one is given, was last used then, and is as the turn said.
pub record ClosesTurn (old : Activation) (turn : ℕ) (phase : Option Phase) (said : Keep) (last : ℕ) (sender : Party)
    (new : Activation) : Type 0 where
  pub request : Request
  pub open_turn : map.get old.mailbox.opened turn ≡ Some request
  pub sender_is : sender ≡ request.sender
  pub left : new ≡ record old {
    phase = unwrap_or phase old.phase;
    mailbox = record old.mailbox {
      opened = map.remove old.mailbox.opened turn;
    };
    last = last;
    until = until_by last said old.until;
    resting = resting_by said old.resting;
  }

-- Who asked for the turn that is closed; or that turn isn't open, and nothing changed.
abbrev pub EndsTurn : Activation → ℕ → Option Phase → Keep → ℕ → Option Party → Activation → Type 0
EndsTurn old turn phase said last None new = (map.get old.mailbox.opened turn ≡ None) × (new ≡ old)
EndsTurn old turn phase said last (Some sender) new = ClosesTurn old turn phase said last sender new
