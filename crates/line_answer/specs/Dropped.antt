-- A silo that drops its history from time to time, and what is left of it: it goes on as if it had kept all.
use Rattle.std.specs.Prelude.{◌≡◌, ◌⊎◌, Bool, true, false, List, ◌++◌}
use Rattle.silo_event.specs.declared.reply.Reply.{Reply}
use Rattle.silo_event.specs.declared.step.Step.{Step}
use Rattle.silo_model.specs.Segments.{told_before}
use Rattle.silo_core.specs.History.{History}
use Rattle.silo_core.specs.Reopening.{Reopens}

-- Nothing changed; or the silo opened again where it is, if it needn't keep its history.
abbrev pub MayDrop : Bool → History → History → Type 0
MayDrop true old new = new ≡ old
MayDrop false old new = (new ≡ old) ⊎ Reopens old new

-- What is left of a whole history: it has the last of its steps and of its replies, and otherwise the same whole and as many failures
-- now. Its setup is what it last opened with.
pub record IsLeftOf (all left : History) : Type 0 where
  pub before : List Step
  pub told : List Reply
  pub journal : all.journal ≡ before ++ left.journal
  pub whole : all.whole ≡ told_before told left.whole
  pub failures : all.failures.now ≡ left.failures.now

-- all of it, or what is left of it
abbrev pub Leaves : Bool → History → History → Type 0
Leaves true all left = left ≡ all
Leaves false all left = IsLeftOf all left
