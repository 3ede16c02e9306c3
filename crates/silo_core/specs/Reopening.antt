-- A silo opens again where it is, and its journal and its replies are dropped; and what its segments are together: the journals between
-- one opening and the next.
use Rattle.std.specs.Prelude.{◌≡◌, true, false, Bool, List, [], ◌∷◌, ◌++◌, Result, Ok, Err}
use Rattle.std.specs.FinMap.{entries}
use Rattle.silo_event.specs.declared.reply.Reply.{Reply}
use Rattle.silo_event.specs.declared.step.Step.{Step}
use Rattle.grain_logic.specs.Logic.{Logic}
use Rattle.silo_model.specs.Collected.{AllIdle}
use Rattle.silo_model.specs.Opening.{Setup, nothing_kept}
use Rattle.silo_model.specs.Segments.{resumed, told_before, untold}
use Rattle.silo_model.specs.Journal.{LeadsTo}
use Rattle.silo_core.specs.History.{History}

-- ---- a silo that opens empty

-- It found no row, and nothing was kept.
pub record OpensEmpty (setup : Setup) : Type 0 where
  pub no_rows : entries setup.rows ≡ []
  pub nothing : setup.kept ≡ nothing_kept

-- ---- one reopening

-- What the silo has is what it opened with; there is no step yet, and no reply; and the calls of the storage that failed so far had failed
-- as it opened.
pub record Reopens (old new : History) : Type 0 where
  pub setup : new.setup ≡ resumed old.setup old.whole
  pub whole : new.whole ≡ untold old.whole
  pub journal : new.journal ≡ []
  pub failures : new.failures ≡ record { at_opening = old.failures.now; now = old.failures.now }

-- So it is after true; after false, or if memory was refused, nothing changed.
abbrev pub ReopensOrNot : {E : Type 0} → Result Bool E → History → History → Type 0
ReopensOrNot (Ok true) old new = Reopens old new
ReopensOrNot (Ok false) old new = new ≡ old
ReopensOrNot (Err e) old new = new ≡ old

-- ---- the segments of a silo

-- It opened so, and its journal led to what it showed.
pub record Stood (logic : Logic) (setup : Setup) (h : History) : Type 0 where
  pub opened : h.setup ≡ setup
  pub leads : LeadsTo logic h.setup h.journal h.whole

-- At each of these the silo was at rest and opened again, and it stands at the last: each segment's journal leads from where the one
-- before was left.
abbrev pub AreSegments : Logic → Setup → List History → History → Type 0
AreSegments logic setup [] last = Stood logic setup last
AreSegments logic setup (h ∷ left) last =
    Stood logic setup h × AllIdle h.whole.entries × AreSegments logic (resumed setup h.whole) left last

-- their journals, one behind the other
abbrev pub steps_in : List History → List Step
steps_in [] = []
steps_in (h ∷ left) = h.journal ++ steps_in left

-- and their replies
abbrev pub replies_in : List History → List Reply
replies_in [] = []
replies_in (h ∷ left) = h.whole.replies ++ replies_in left

-- A silo that opens again begins another segment.
abbrev pub ReopeningAddsASegment : Type 0
ReopeningAddsASegment = (logic : Logic) (setup : Setup) (left : List History) (old new : History)
    → AreSegments logic setup left old → AllIdle old.whole.entries → Reopens old new → AreSegments logic setup (left ++ old ∷ []) new

-- Nothing is lost: the journals of all segments, one behind the other, lead from the first opening to where the silo is, with all replies.
abbrev pub NothingIsLost : Type 0
NothingIsLost = (logic : Logic) (setup : Setup) (left : List History) (last : History) → AreSegments logic setup left last
    → LeadsTo logic setup (steps_in left ++ last.journal) (told_before (replies_in left) last.whole)
