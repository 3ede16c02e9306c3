-- What the calls of the activations answer and leave, in the words of entries.
use Rattle.std.specs.Prelude.{◌≡◌, ℕ, Bool, true, false, unwrap_or, List, [], ◌∷◌, Option, Some, None, option_and_then, if◌then◌else◌}
use Rattle.std.specs.FinMap as map
use Rattle.grain_id.specs.Names.{Grain}
use Rattle.request_codec.specs.Tree.{Tree}
use Rattle.grain_logic.specs.Logic.{Logic, Keep}
use Rattle.silo_event.specs.declared.opened_turn.OpenedTurn.{OpenedTurn}
use Rattle.silo_event.specs.declared.reply.Party.{Party}
use Rattle.silo_event.specs.declared.step.Answer.{Answer}
use Rattle.silo_event.specs.declared.step.Answer.TheVariants.{Done, Failed, NotNow}
use Rattle.silo_model.specs.Machine.{Entry, Entries, Request, Phase, waiting, loading, ready}
use Rattle.silo_model.specs.Idle.{is_idle}
use Rattle.silo_model.specs.Effect.{on_entry, change_at}
use Rattle.silo_model.specs.Turns.{activated, reads, may_open, opened_if_ready, until_by, resting_by, stays_or_goes}

-- ---- activating

-- An entry that waited loads now.
pub record Starts (old : Entries) (grain : Grain) (new : Entries) : Type 0 where
  pub before : Entry
  pub found : map.get old grain ≡ Some before
  pub waits : before.phase ≡ waiting
  pub put : new ≡ map.insert old grain (record before { phase = loading })

-- An entry that waits loads now; or there is none that waits, and nothing changed.
abbrev pub Activates : Entries → Grain → Answer → Entries → Type 0
Activates old grain Done new = Starts old grain new
Activates old grain Failed new = ⊥
Activates old grain NotNow new = (option_and_then (λ e. activated e e.phase) (map.get old grain) ≡ None) × (new ≡ old)

-- ---- opening a turn

-- the turn of the first waiting request, if it may begin
abbrev pub front_turn : Logic → Grain → Entry → Tree → List Request → Option OpenedTurn
front_turn logic grain e state [] = None
front_turn logic grain e state (first ∷ others) =
    if may_open logic grain e first
    then Some (record { grain = grain; number = first.number; reading = reads logic grain first; state = state; message = first.call })
    else None

abbrev pub turn_in : Logic → Grain → Entry → Phase → Option OpenedTurn
turn_in logic grain e waiting = None
turn_in logic grain e loading = None
turn_in logic grain e (ready state version) = front_turn logic grain e state e.queue

-- the turn that a begin opens: in the entry's state, of the request's own message
abbrev pub opened_turn : Logic → Grain → Option Entry → Option OpenedTurn
opened_turn logic grain found = option_and_then (λ e. turn_in logic grain e e.phase) found

-- The turn of the first waiting request is open now, and the entry was in use and is; or none may begin, and nothing changed.
pub record Opens (logic : Logic) (old : Entries) (grain : Grain) (new : Entries) : Type 0 where
  pub before : Entry
  pub after : Entry
  pub found : map.get old grain ≡ Some before
  pub does : opened_if_ready logic grain before before.phase ≡ Some (on_entry after)
  pub used : is_idle before ≡ false
  pub in_use : is_idle after ≡ false
  pub put : new ≡ map.insert old grain after

abbrev pub Begins : Logic → Entries → Grain → Bool → Entries → Type 0
Begins logic old grain false new = (option_and_then (λ e. opened_if_ready logic grain e e.phase) (map.get old grain) ≡ None) × (new ≡ old)
Begins logic old grain true new = Opens logic old grain new

-- ---- closing a turn

-- the entry without the turn of the request: in this phase, if one is given, last used then, and as the turn said of it
abbrev pub closed_entry : Entry → Request → Option Phase → Keep → ℕ → Entry
closed_entry e request phase said last = record e {
  phase = unwrap_or phase e.phase;
  turns = map.remove e.turns request.number;
  last = last;
  until = until_by last said e.until;
  resting = resting_by said e.resting;
}

-- A turn of a request was open, under its number, and is closed; the sender asked for it. The entry goes if it rests and is idle then.
pub record ClosesEntry (old : Entries) (grain : Grain) (turn : ℕ) (phase : Option Phase) (said : Keep) (last : ℕ) (sender : Party)
    (new : Entries) : Type 0 where
  pub before : Entry
  pub request : Request
  pub found : map.get old grain ≡ Some before
  pub open_turn : map.get before.turns turn ≡ Some request
  pub sender_is : sender ≡ request.sender
  pub left : new ≡ change_at old grain (stays_or_goes (closed_entry before request phase said last))

-- A turn is closed; or that turn isn't open, and nothing changed.
abbrev pub Closes : Entries → Grain → ℕ → Option Phase → Keep → ℕ → Option Party → Entries → Type 0
Closes old grain turn phase said last None new = (option_and_then (λ e. map.get e.turns turn) (map.get old grain) ≡ None) × (new ≡ old)
Closes old grain turn phase said last (Some sender) new = ClosesEntry old grain turn phase said last sender new
