-- What a turn says of the activation: an entry that rests goes as soon as it is idle, and one that stays is left until then.
use Rattle.std.specs.Prelude.{◌≡◌, ℕ, ◌+◌, ◌≤◌, ◌<◌, Bool, true, false, List, [], Option, Some, None}
use Rattle.std.specs.List.{list_any}
use Rattle.std.specs.FinMap as map
use Rattle.grain_id.specs.Names.{Grain, grain_eq}
use Rattle.request_codec.specs.Tree.{Tree}
use Rattle.grain_storage.specs.declared.row.Row.{Row}
use Rattle.grain_storage.specs.Rows.{version_of, content_or}
use Rattle.idle_collector.specs.Ages.{kind_age}
use Rattle.silo_event.specs.declared.step.Step.{Step}
use Rattle.silo_event.specs.declared.step.Step.TheVariants.{Load, Store, End, Abandon, Sweep}
use Rattle.grain_logic.specs.Logic.{Logic, Keep, asks_nothing, rest, stay}
use Rattle.grain_logic.specs.Laws.{KeepsSame}
use Rattle.silo_model.specs.Machine.{Entry, Request, loading, ready}
use Rattle.silo_model.specs.Turns.{plan_of}
use Rattle.silo_model.specs.Saved.{touches_row}
use Rattle.silo_model.specs.Whole.{Whole, whole_step}
use Rattle.silo_model.specs.Opening.{Kept, KeptGrain, Setup}
use Rattle.silo_model.specs.Journal.{all_done, LeadsTo}
use Rattle.silo_model.specs.Collected.{IsIdle}

-- An open turn of the grain is about to end by its plan, which says this of the activation.
pub record IsEnding (logic : Logic) (w : Whole) (grain : Grain) (turn : ℕ) (said : Keep) : Type 0 where
  pub entry : Entry
  pub request : Request
  pub state : Tree
  pub version : Option ℕ
  pub found : map.get w.entries grain ≡ Some entry
  pub open_turn : map.get entry.turns turn ≡ Some request
  pub phase : entry.phase ≡ ready state version
  pub asks : (plan_of logic grain state request).storage ≡ asks_nothing
  pub says : (plan_of logic grain state request).keep ≡ said

-- ---- resting

-- No request waits, and no turn is open but this one.
pub record IsLast (entry : Entry) (request : Request) : Type 0 where
  pub nothing_waits : entry.queue ≡ []
  pub no_other : map.len (map.remove entry.turns request.number) ≡ 0

-- If the grain is loaded again, after whatever steps that leave its row, it has what this row holds.
abbrev pub ComesBack : Logic → Grain → Option Row → Whole → Type 0
ComesBack logic grain row w =
    (steps : List Step) (later : Whole) (e : Entry)
    → all_done logic w steps ≡ Some later → list_any (touches_row grain) steps ≡ false → map.get later.entries grain ≡ Some e
    → e.phase ≡ loading
    → (after : Whole) × (whole_step logic later (Load grain false) ≡ Some after)
    × (map.get after.entries grain
    ≡ Some (record e { phase = ready (content_or (logic.empty grain.kind) row) (version_of row); until = 0; resting = false }))

-- If the last turn of a grain says that it rests, its entry goes with the turn's end. Every row is as it was, and the
-- grain's is what its next activation loads.
abbrev pub RestingGoes : Type 0
RestingGoes =
    (logic : Logic) (w : Whole) (grain : Grain) (turn : ℕ) (ending : IsEnding logic w grain turn rest)
    → IsLast ending.entry ending.request
    → (after : Whole) × (whole_step logic w (End grain turn) ≡ Some after) × (map.get after.entries grain ≡ None)
    × (after.rows ≡ w.rows) × ComesBack logic grain (map.get w.rows grain) after

-- No entry that rests is idle, in any whole that a journal leads to: whichever turn leaves it idle, and however that turn
-- is closed, it goes in the same step.
abbrev pub RestingIsUsed : Type 0
RestingIsUsed = (logic : Logic) (setup : Setup) (journal : List Step) (w : Whole) (grain : Grain) (e : Entry)
    → LeadsTo logic setup journal w → map.get w.entries grain ≡ Some e → e.resting ≡ true → IsIdle e → ⊥

-- ---- staying

-- the step may close a turn of the grain
abbrev pub may_close : Grain → Step → Bool
may_close grain (Store other turn failed) = grain_eq other grain
may_close grain (End other turn) = grain_eq other grain
may_close grain (Abandon other turn) = grain_eq other grain
may_close grain _ = false

-- The entry isn't due before this moment, and doesn't rest.
pub record StaysUntil (moment : ℕ) (e : Entry) : Type 0 where
  pub until : e.until ≡ moment
  pub awake : e.resting ≡ false

-- If a turn says that the grain stays so long, then after its end nothing takes the grain's entry before that time has
-- passed, whatever is done but the closing of another of its turns.
abbrev pub StayingStays : Type 0
StayingStays =
    (logic : Logic) (w : Whole) (grain : Grain) (turn time : ℕ) → IsEnding logic w grain turn (stay time)
    → (after : Whole) × (whole_step logic w (End grain turn) ≡ Some after)
    × ((steps : List Step) (later : Whole) → all_done logic after steps ≡ Some later → list_any (may_close grain) steps ≡ false
    → later.clock < w.clock + time
    → (e : Entry) × (map.get later.entries grain ≡ Some e) × StaysUntil (w.clock + time) e)

-- From that moment on, and an age after it was last used, a sweep takes it if it is idle.
abbrev pub StayingGoes : Type 0
StayingGoes =
    (logic : Logic) (w : Whole) (grain : Grain) (moment : ℕ) (e : Entry) → map.get w.entries grain ≡ Some e → StaysUntil moment e
    → IsIdle e → moment ≤ w.clock → e.last + kind_age w.ages w.age grain.kind ≤ w.clock
    → (swept : Whole) × (whole_step logic w Sweep ≡ Some swept) × (map.get swept.entries grain ≡ None)

-- ---- a logic that says nothing of activations

-- What a sweep leaves if an age alone counts: no entry that was idle for so long, and every other as it was; and every row.
pub record LeavesYounger (age : ℕ) (before after : Whole) : Type 0 where
  pub goes : (grain : Grain) (e : Entry) → map.get before.entries grain ≡ Some e → IsIdle e → e.last + age ≤ before.clock
      → map.get after.entries grain ≡ None
  pub stays : (grain : Grain) (e : Entry) → map.get before.entries grain ≡ Some e → (IsIdle e → before.clock < e.last + age)
      → map.get after.entries grain ≡ Some e
  pub rows : after.rows ≡ before.rows

-- No grain was kept that stays.
abbrev pub KeptNoneStays : Kept → Type 0
KeptNoneStays kept = (grain : Grain) (k : KeptGrain) → map.get kept.grains grain ≡ Some k → k.until ≡ 0

-- Where no plan says anything of the activation, and no grain was kept that stays, no entry ever stays or rests, so that no close
-- takes one; and where no kind has an age of its own, a sweep takes what was idle for the one age, and nothing else.
abbrev pub OneAgeCounts : Type 0
OneAgeCounts = (logic : Logic) → KeepsSame logic → (setup : Setup) (journal : List Step) (w : Whole)
    → KeptNoneStays setup.kept → LeadsTo logic setup journal w
    → ((grain : Grain) (e : Entry) → map.get w.entries grain ≡ Some e → StaysUntil 0 e)
    × (setup.ages ≡ [] → (swept : Whole) × (whole_step logic w Sweep ≡ Some swept) × LeavesYounger setup.age w swept)
