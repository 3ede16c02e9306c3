-- What there is to do that no client asks for: entries are activated and loaded, their requests begin, and what grains sent is delivered.
use Rattle.std.specs.Prelude.{◌≡◌, ◌≢◌, ℕ, Bool, true, false, not, List, [], ◌∷◌, Option, Some, None, option_map, option_and_then}
use Rattle.std.specs.Prelude.{is_some, if◌then◌else◌}
use Rattle.std.specs.List.{list_any}
use Rattle.std.specs.FinMap as map
use Rattle.grain_id.specs.Names.{Grain, grain_eq}
use Rattle.silo_event.specs.declared.step.Step.{Step}
use Rattle.silo_event.specs.declared.step.Step.TheVariants.{Refuse, Call, Poke, Status, Deliver, Activate, Load, Begin, Store, End}
use Rattle.silo_event.specs.declared.step.Step.TheVariants.{Abandon, Tick, Sweep}
use Rattle.grain_logic.specs.Logic.{Logic}
use Rattle.silo_model.specs.Machine.{Account, Entry, Request, Phase, waiting, loading, ready}
use Rattle.silo_model.specs.Turns.{may_open}
use Rattle.silo_model.specs.Sends.{first_from}
use Rattle.silo_model.specs.Whole.{Whole, whole_step}
use Rattle.silo_model.specs.Opening.{Setup}
use Rattle.silo_model.specs.Journal.{LeadsTo}

-- a step that no client asks for, and whose storage call hasn't failed
abbrev pub is_work : Step → Bool
is_work (Refuse caller id code) = false
is_work (Call caller id grain message) = false
is_work (Poke failed caller id grain state) = false
is_work (Status caller id) = false
is_work (Deliver grain) = true
is_work (Activate grain) = true
is_work (Load grain failed) = not failed
is_work (Begin grain) = true
is_work (Store grain turn failed) = false
is_work (End grain turn) = false
is_work (Abandon grain turn) = false
is_work (Tick now) = false
is_work Sweep = false

-- It is such a step that would be done now; or it is none, and no such step would be.
abbrev pub IsTodo : Logic → Whole → Option Step → Type 0
IsTodo logic w (Some s) = (is_work s ≡ true) × (whole_step logic w s ≢ None)
IsTodo logic w None = (s : Step) → is_work s ≡ true → whole_step logic w s ≡ None

-- ---- the same, at one grain

-- a Begin, if the first request that waits may become an open turn
abbrev pub begin_at : Logic → Grain → Entry → List Request → Option Step
begin_at logic grain e [] = None
begin_at logic grain e (first ∷ others) = if may_open logic grain e first then Some (Begin grain) else None

-- by the entry's phase
abbrev pub work_by : Logic → Grain → Entry → Phase → Option Step
work_by logic grain e waiting = Some (Activate grain)
work_by logic grain e loading = Some (Load grain false)
work_by logic grain e (ready state version) = begin_at logic grain e e.queue

-- what is to do with the grain's entry: at most one of the three is possible
abbrev pub work_on : Logic → Grain → Option Entry → Option Step
work_on logic grain None = None
work_on logic grain (Some e) = work_by logic grain e e.phase

-- a delivery, if the grain sent something that is not yet delivered
abbrev pub delivery_of : Grain → Option Account → Option Step
delivery_of grain account = option_map (λ found. Deliver grain) (option_and_then (λ (a : Account). first_from grain a.sends) account)

-- ---- which grain sends

-- the grain is one of these
abbrev pub is_among : List Grain → Grain → Bool
is_among grains grain = list_any (λ g. grain_eq g grain) grains

-- the grain that may send something by the step
abbrev pub sender_by : Step → List Grain
sender_by (Refuse caller id code) = []
sender_by (Call caller id grain message) = []
sender_by (Poke failed caller id grain state) = []
sender_by (Status caller id) = []
sender_by (Deliver grain) = []
sender_by (Activate grain) = []
sender_by (Load grain failed) = []
sender_by (Begin grain) = []
sender_by (Store grain turn failed) = []
sender_by (End grain turn) = grain ∷ []
sender_by (Abandon grain turn) = []
sender_by (Tick now) = []
sender_by Sweep = []

-- What a grain sent is in the account of its own tenant.
abbrev pub OwnSends : Whole → Type 0
OwnSends w = (tenant : List ℕ) (g : Grain) → is_some (delivery_of g (map.get w.accounts tenant)) ≡ true → g.tenant ≡ tenant

-- ---- the laws

-- What is to do at a grain would be done now.
pub record WorkIsDone : Type 0 where
  pub entries : (logic : Logic) (w : Whole) (g : Grain) (s : Step) → work_on logic g (map.get w.entries g) ≡ Some s
      → IsTodo logic w (Some s)
  pub senders : (logic : Logic) (w : Whole) (g : Grain) (s : Step) → delivery_of g (map.get w.accounts g.tenant) ≡ Some s
      → IsTodo logic w (Some s)

-- So it is in every whole that a journal leads to.
abbrev pub SendsAreOwn : Type 0
SendsAreOwn = (logic : Logic) (setup : Setup) (journal : List Step) (w : Whole) → LeadsTo logic setup journal w → OwnSends w
