-- What is said of a folder of data that isn't gone on with.
use Rattle.std.specs.Prelude.{◌≡◌, ◌++◌, ◌∷◌, ℕ, List, [], codes, decimal, string_bytes}
use Rattle.command_parts.specs.declared.failure.Cause.TheVariants as cause
use Rattle.command_parts.specs.declared.failure.ProgramFault.{ProgramFault}
use Rattle.command_parts.specs.declared.failure.ProgramFault.TheVariants as fault
use Rattle.data_command.specs.declared.fault.DataFault.{DataFault}
use Rattle.data_command.specs.declared.fault.DataFault.TheVariants as data_fault

-- the line that tells that the log was begun with other words
abbrev pub other_words_text : List ℕ
other_words_text = codes "silo: the data have other words" ++ 10 ∷ []

-- the lines that tell that the checkpoint is refused, and that there is one and no log
abbrev pub no_checkpoint_text : List ℕ
no_checkpoint_text = codes "silo: the checkpoint is refused" ++ 10 ∷ []

abbrev pub no_log_text : List ℕ
no_log_text = codes "silo: the log is missing" ++ 10 ∷ []

-- the line that tells which line of the log is refused
abbrev pub refused_text : ℕ → List ℕ
refused_text line = codes "silo: log line " ++ decimal line ++ (codes " is refused" ++ 10 ∷ [])

-- the line that tells at which line of the log something else would be told
abbrev pub otherwise_text : ℕ → List ℕ
otherwise_text line = codes "silo: log line " ++ decimal line ++ (codes " is answered otherwise" ++ 10 ∷ [])

-- the line that tells of which tenant something is kept that the words leave out
abbrev pub has_tenant_text : List ℕ → List ℕ
has_tenant_text name = codes "silo: the data have the tenant " ++ (name ++ 10 ∷ [])

-- what a fault is to the program, unless memory is refused for what is said
abbrev pub IsDataFault : DataFault → ProgramFault → Type 0
IsDataFault (data_fault.Failed why) told = told ≡ fault.Failed why
IsDataFault data_fault.NoCheckpoint (fault.Failed why) = why ≡ cause.Memory
IsDataFault data_fault.NoCheckpoint (fault.Refused text) = ⊥
IsDataFault data_fault.NoCheckpoint (fault.NoJournal text) = string_bytes text ≡ no_checkpoint_text
IsDataFault data_fault.NoLog (fault.Failed why) = why ≡ cause.Memory
IsDataFault data_fault.NoLog (fault.Refused text) = ⊥
IsDataFault data_fault.NoLog (fault.NoJournal text) = string_bytes text ≡ no_log_text
IsDataFault data_fault.OtherWords (fault.Failed why) = why ≡ cause.Memory
IsDataFault data_fault.OtherWords (fault.Refused text) = string_bytes text ≡ other_words_text
IsDataFault data_fault.OtherWords (fault.NoJournal text) = ⊥
IsDataFault (data_fault.HasTenant name) (fault.Failed why) = why ≡ cause.Memory
IsDataFault (data_fault.HasTenant name) (fault.Refused text) = string_bytes text ≡ has_tenant_text name.bytes
IsDataFault (data_fault.HasTenant name) (fault.NoJournal text) = ⊥
IsDataFault (data_fault.Refused line) (fault.Failed why) = why ≡ cause.Memory
IsDataFault (data_fault.Refused line) (fault.Refused text) = ⊥
IsDataFault (data_fault.Refused line) (fault.NoJournal text) = string_bytes text ≡ refused_text line
IsDataFault (data_fault.Otherwise line) (fault.Failed why) = why ≡ cause.Memory
IsDataFault (data_fault.Otherwise line) (fault.Refused text) = ⊥
IsDataFault (data_fault.Otherwise line) (fault.NoJournal text) = string_bytes text ≡ otherwise_text line
