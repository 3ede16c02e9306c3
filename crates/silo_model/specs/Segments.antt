-- A silo is left where nothing waits and nothing is open, and goes on from what is kept of it: its replies and its journal are let go.
use Rattle.std.specs.Prelude.{◌≡◌, List, [], ◌++◌, None}
use Rattle.finite_maps.specs.Mapped.{map_values}
use Rattle.request_codec.specs.Tree.{Tree, null}
pub use Rattle.tenant_accounts.specs.Kept.{kept_account}
use Rattle.silo_event.specs.declared.step.Step.{Step}
use Rattle.silo_event.specs.declared.reply.Reply.{Reply}
use Rattle.grain_logic.specs.Logic.{Logic}
use Rattle.silo_model.specs.Machine.{Entry, Phase, waiting, loading, ready}
use Rattle.silo_model.specs.Whole.{Whole}
use Rattle.silo_model.specs.Collected.{AllIdle}
use Rattle.silo_model.specs.Opening.{Kept, KeptGrain, Setup, opening}
use Rattle.silo_model.specs.Journal.{LeadsTo}

-- ---- what is kept of a whole

-- Of an entry that isn't ready nothing is kept: where this is asked, there is none.
abbrev pub kept_by : Entry → Phase → KeptGrain
kept_by e waiting = record { state = null; version = None; last = e.last; until = e.until }
kept_by e loading = record { state = null; version = None; last = e.last; until = e.until }
kept_by e (ready state version) = record { state = state; version = version; last = e.last; until = e.until }

abbrev pub kept_grain : Entry → KeptGrain
kept_grain e = kept_by e e.phase

abbrev pub kept_of : Whole → Kept
kept_of w = record { clock = w.clock; accounts = map_values kept_account w.accounts; grains = map_values kept_grain w.entries }

-- the setup of a silo that goes on from there
abbrev pub resumed : Setup → Whole → Setup
resumed setup w = record setup { rows = w.rows; kept = kept_of w }

-- these replies were made before
abbrev pub told_before : List Reply → Whole → Whole
told_before replies w = record w { replies = replies ++ w.replies }

abbrev pub untold : Whole → Whole
untold w = record w { replies = [] }

-- ---- the laws

-- A silo that goes on opens as what it was, but for its replies.
abbrev pub ResumesAsItWas : Type 0
ResumesAsItWas = (logic : Logic) (setup : Setup) (journal : List Step) (w : Whole)
    → LeadsTo logic setup journal w → AllIdle w.entries → opening (resumed setup w) ≡ untold w

-- Where one journal leads, and another leads on, both lead, one behind the other, with the replies of both.
abbrev pub SegmentsLead : Type 0
SegmentsLead = (logic : Logic) (setup : Setup) (first second : List Step) (w x : Whole)
    → LeadsTo logic setup first w → AllIdle w.entries → LeadsTo logic (resumed setup w) second x
    → LeadsTo logic setup (first ++ second) (told_before w.replies x)
