-- The order of the replies of all tenants.
use Rattle.std.specs.Prelude.{◌≡◌, ℕ, List, [], ◌∷◌, ◌++◌, length, drop, Option, Some, None, unwrap_or}
use Rattle.silo_event.specs.Owner.{owner_of}
use Rattle.silo_event.specs.declared.reply.Reply.{Reply}
use Rattle.silo_event.specs.declared.step.Step.{Step}
use Rattle.grain_logic.specs.Logic.{Logic}
use Rattle.silo_model.specs.Machine.{Machine}
use Rattle.silo_model.specs.Step.{machine_step}
use Rattle.silo_model.specs.Whole.{Whole}
use Rattle.silo_model.specs.Run.{machine_run, whole_run, restricted_to}
use Rattle.silo_model.specs.Opening.{Setup, start_of}
use Rattle.silo_model.specs.Journal.{LeadsTo}

-- the replies that a step adds in a machine
abbrev pub replies_added : Logic → Machine → Step → List Reply
replies_added logic m s = drop (length m.replies) (unwrap_or (machine_step logic m s) m).replies

-- What a step adds after those before it: what it adds in its owner's machine, which has taken its own of them. A step
-- of nobody adds nothing.
abbrev pub owner_adds : Logic → Setup → List Step → Step → Option (List ℕ) → List Reply
owner_adds logic setup before s None = []
owner_adds logic setup before s (Some owner) = replies_added logic (machine_run logic (start_of setup owner) (restricted_to owner before)) s

-- what the steps add, one after another
abbrev pub owners_add : Logic → Setup → List Step → List Step → List Reply
owners_add logic setup before [] = []
owners_add logic setup before (s ∷ steps) = owner_adds logic setup before s (owner_of s) ++ owners_add logic setup (before ++ s ∷ []) steps

-- From where a journal leads, the replies after a list are those before it, and then, step by step, what each step's owner's machine adds.
abbrev pub RepliesInOrder : Type 0
RepliesInOrder = (logic : Logic) (setup : Setup) (journal : List Step) (w : Whole) (steps : List Step)
    → LeadsTo logic setup journal w → (whole_run logic w steps).replies ≡ w.replies ++ owners_add logic setup journal steps
