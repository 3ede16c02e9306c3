-- What is known where a checkpoint of other words was read, and of the checkpoint that takes its place.
use Rattle.std.specs.Prelude.{◌≡◌, ◌⊎◌, ◌<◌, ◌≤◌, ℕ, List, Option, None, Some, true}
use Rattle.grain_id.specs.Names.{Grain}
use Rattle.tenant_gate.specs.Table.{Table}
use Rattle.grain_storage.specs.declared.row.Row.{Row}
use Rattle.silo_state.specs.declared.parts.KeptParts.{KeptParts}
use Rattle.silo_model.specs.Opening.{Setup}
use Rattle.log_host.specs.Files.{MaySwitch, Switches}
use Rattle.log_text.specs.Head.{head_text, words_text}
use Rattle.log_text.specs.Sums.{spelled}
use Rattle.silo_checkpoint.specs.Saved.{HasText, Saved, sum_in}
use Rattle.command_parts.specs.Setups.{Start, Version}
use Rattle.command_parts.specs.declared.failure.Cause.TheVariants as cause
use Rattle.data_command.specs.Data.{LogView, NothingFollows}
use Rattle.data_command.specs.Folder.{first_left_out}
use Rattle.data_command.specs.Words.{head_words, words_by}
use Rattle.data_command.specs.declared.fault.DataFault.{DataFault}
use Rattle.data_command.specs.declared.fault.DataFault.TheVariants as data_fault
use Rattle.data_command.specs.inside.Ready.{HasFound, SaysWords}
use Rattle.data_command.specs.inside.Replacing.{AreTexts}

-- the words that a checkpoint says, as the head of a log has them
abbrev pub words_in : Saved → List ℕ
words_in saved = words_text (words_by saved.kinds saved.sends saved.setup.age saved.setup.ages saved.setup.tenants)

-- These were found as the log and as the checkpoint, whose number that is, and which says other words.
pub record HasReadOther (start : Start) (sends : ℕ) (old now : LogView) (number : ℕ) (log : Option (List ℕ)) (saved : Saved) : Type 0 where
  pub point : List ℕ
  pub found : HasFound old now log (Some point)
  pub says : HasText point saved
  pub number_is : number ≡ sum_in point
  pub other : SaysWords saved start.version.number sends (head_words start sends) → ⊥

-- wherever that was found, this holds
abbrev pub FromOther : Start → ℕ → LogView → ℕ → Option (List ℕ) → Saved → (LogView → Type 0) → Type 0
FromOther start sends now number log saved Holds = (old : LogView) → HasReadOther start sends old now number log saved → Holds old

module _ (kinds number : ℕ) (log : Option (List ℕ)) (saved : Saved) where
  -- The checkpoint's logic is no newer one, and the log is the one of that number that has its words, without a batch.
  pub record MayChange : Type 0 where
    pub older : saved.kinds ≤ kinds
    pub empty : log ≡ Some (head_text (words_in saved) (spelled number))

  -- The log is another.
  pub record HasMore : Type 0 where
    pub bytes : List ℕ
    pub there : log ≡ Some bytes
    pub not : bytes ≡ head_text (words_in saved) (spelled number) → ⊥

-- Why words can't be changed.
module _ (tenants : Table) (kinds number : ℕ) (log : Option (List ℕ)) (parts : KeptParts) (rows : List (Grain × Row)) (saved : Saved) where
  abbrev pub MayNotChange : DataFault → Type 0
  MayNotChange data_fault.OtherWords = (kinds < saved.kinds) ⊎ HasMore kinds number log saved
  MayNotChange data_fault.NoLog = log ≡ None
  MayNotChange (data_fault.HasTenant name) = MayChange kinds number log saved × (first_left_out tenants parts rows ≡ Some name.bytes)
  MayNotChange (data_fault.Failed cause.Memory) = Unit {0}
  MayNotChange why = ⊥

module _ {F : Type 0} (view : F → LogView) (version : Version) (sends : ℕ) (number : List ℕ) (setup : Setup) (words : List ℕ)
    (old new : F) where
  -- A checkpoint took the place of the log and of the checkpoint before, and these are the bytes of the log that goes on from it.
  pub record HasSwitched (head : List ℕ) : Type 0 where
    pub text : List ℕ
    pub are : AreTexts version sends number setup words text head
    pub done : Switches (view old).acts (view old).begun (view old).past (view new).acts (view new).begun (view new).past text head

  -- The switch failed.
  pub record FailsToSwitch : Type 0 where
    pub text : List ℕ
    pub head : List ℕ
    pub are : AreTexts version sends number setup words text head
    pub failed : (view new).failed ≡ true
    pub may : MaySwitch (view old).acts (view old).begun (view old).past (view new).acts (view new).begun (view new).past text head

  -- Why there is no such checkpoint: nothing was done, or the switch failed.
  abbrev pub FailsToBegin : DataFault → Type 0
  FailsToBegin (data_fault.Failed cause.Memory) = new ≡ old
  FailsToBegin (data_fault.Failed cause.Write) = FailsToSwitch
  FailsToBegin data_fault.OtherWords = (new ≡ old) × NothingFollows version sends number setup
  FailsToBegin why = ⊥
