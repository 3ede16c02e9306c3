-- What a log in memory noted, as acts, and which of its calls fails.
use Rattle.std.specs.Prelude.{◌-◌, ◌==◌, ℕ, Bool, List, Vec, map, option_map}
use Rattle.std.specs.declared.alloc.Global.{Global}
use Rattle.log_host.specs.declared.memory.Did.{Did}
use Rattle.log_host.specs.declared.memory.Did.TheVariants.{Wrote, Synced, Told}
use Rattle.log_host.specs.declared.memory.Fuse.{Fuse}
use Rattle.log_host.specs.declared.memory.OldLog.{OldLog}
use Rattle.log_host.specs.Acts.{Act, synced, told, wrote}
use Rattle.log_host.specs.Files.{Replaced}

abbrev pub act_of : Did → Act
act_of (Wrote bytes) = wrote bytes.items
act_of Synced = synced
act_of (Told bytes) = told bytes.items

abbrev pub acts_of : List Did → List Act
acts_of dids = map act_of dids

abbrev pub bytes_in : Vec ℕ Global → List ℕ
bytes_in bytes = bytes.items

abbrev pub replaced_of : OldLog → Replaced
replaced_of old = record { point = option_map bytes_in old.point; begun = option_map bytes_in old.begun; acts = acts_of old.did.items }

-- the next call fails
abbrev pub burns : Fuse → Bool
burns fuse = fuse.calls == 1

-- and what is left of the fuse behind it
abbrev pub later : Fuse → Fuse
later fuse = record fuse { calls = fuse.calls - 1 }
