-- Candidates: grains at which something may be to do, without a walk over all entries.
use Rattle.std.specs.Prelude.{◌≡◌, ℕ, true, List, [], ◌++◌, Option, Some, None, option_to_list, is_some}
use Rattle.std.specs.FinMap as map
use Rattle.grain_id.specs.Names.{Grain}
use Rattle.silo_event.specs.Owner.{owner_of}
use Rattle.silo_event.specs.declared.step.Step.{Step}
use Rattle.grain_logic.specs.Logic.{Logic}
use Rattle.silo_model.specs.Step.{grain_of}
use Rattle.silo_model.specs.Whole.{Whole, whole_step}
use Rattle.silo_model.specs.Opening.{Setup, nothing_kept, opening}
use Rattle.silo_model.specs.Todo.{IsTodo, work_on, delivery_of, is_among, sender_by}

-- grains at which something may be to do: with their entries, and with what they sent
pub record Candidates : Type 0 where
  pub entries : List Grain
  pub senders : List Grain

-- Wherever something is to do, the grain is a candidate. A candidate may have nothing to do.
pub record Covers (logic : Logic) (w : Whole) (candidates : Candidates) : Type 0 where
  pub entries : (g : Grain) → is_some (work_on logic g (map.get w.entries g)) ≡ true → is_among candidates.entries g ≡ true
  pub senders : (g : Grain) → is_some (delivery_of g (map.get w.accounts g.tenant)) ≡ true → is_among candidates.senders g ≡ true

-- the grain at which the step of this owner is taken, if there is one
abbrev pub grain_by_owner : Whole → Step → Option (List ℕ) → List Grain
grain_by_owner w s None = []
grain_by_owner w s (Some owner) = option_to_list (grain_of (map.get w.accounts owner) s)

-- the grain whose entry the step may change, if there is one
abbrev pub grain_changed_by : Whole → Step → List Grain
grain_changed_by w s = grain_by_owner w s (owner_of s)

-- the candidates after a step: with the grains at which it may have left something to do
abbrev pub candidates_after : Whole → Step → Candidates → Candidates
candidates_after w s candidates =
    record { entries = candidates.entries ++ grain_changed_by w s; senders = candidates.senders ++ sender_by s }

-- ---- the laws

-- If candidates cover a silo and are none, nothing is to do.
abbrev pub NothingToDo : Type 0
NothingToDo = (logic : Logic) (w : Whole) → Covers logic w (record { entries = []; senders = [] }) → IsTodo logic w None

-- After a step that is done, they cover the silo still, with the step's own grains.
abbrev pub CoversGrow : Type 0
CoversGrow =
    (logic : Logic) (w after : Whole) (s : Step) (candidates : Candidates) → whole_step logic w s ≡ Some after → Covers logic w candidates
    → Covers logic after (candidates_after w s candidates)

-- When a silo opens of which nothing was kept, none cover it.
abbrev pub CoversBegin : Type 0
CoversBegin = (logic : Logic) (setup : Setup) → setup.kept ≡ nothing_kept
    → Covers logic (opening setup) (record { entries = []; senders = [] })
