-- What the program says of a fault, and the status that it then ends with.
use Rattle.std.specs.Prelude.{◌++◌, ◌∷◌, ℕ, List, [], codes, decimal, string_bytes}
use Rattle.line_text.specs.declared.fault.LineFault.{LineFault}
use Rattle.line_text.specs.declared.fault.LineFault.TheVariants as line
use Rattle.command_parts.specs.declared.failure.Cause.{Cause}
use Rattle.command_parts.specs.declared.failure.Cause.TheVariants as cause
use Rattle.command_parts.specs.declared.failure.End.{End}
use Rattle.command_parts.specs.declared.failure.End.TheVariants as end
use Rattle.command_parts.specs.declared.failure.ProgramFault.{ProgramFault}
use Rattle.command_parts.specs.declared.failure.ProgramFault.TheVariants as fault

-- ---- what is said

-- the line that tells by what the program failed
abbrev pub failure_text : Cause → List ℕ
failure_text cause.Read = codes "silo: reading failed" ++ 10 ∷ []
failure_text cause.Write = codes "silo: writing failed" ++ 10 ∷ []
failure_text cause.Memory = codes "silo: out of memory" ++ 10 ∷ []
failure_text cause.TooMuch = codes "silo: too much input" ++ 10 ∷ []
failure_text cause.NoWorker = codes "silo: no worker" ++ 10 ∷ []
failure_text cause.Strayed = codes "silo: lanes strayed" ++ 10 ∷ []
failure_text cause.InUse = codes "silo: the data are in use" ++ 10 ∷ []

-- the line that tells which line of a journal is refused
abbrev pub no_journal_text : ℕ → List ℕ
no_journal_text number = codes "silo: journal line " ++ decimal number ++ (codes " is refused" ++ 10 ∷ [])

-- what is told on standard error
abbrev pub told_text : ProgramFault → List ℕ
told_text (fault.Failed why) = failure_text why
told_text (fault.Refused text) = string_bytes text
told_text (fault.NoJournal text) = string_bytes text

-- ---- the status

-- 1 if the program failed, 2 if it refuses its arguments, or a log of other words, and 4 if it refuses a journal or a log
abbrev pub status_of : ProgramFault → ℕ
status_of (fault.Failed why) = 1
status_of (fault.Refused text) = 2
status_of (fault.NoJournal text) = 4

-- 0 if all is well, whatever is told of it, and 3 if a tenant differs
abbrev pub end_status : End → ℕ
end_status end.Well = 0
end_status (end.Told text) = 0
end_status end.Differs = 3

-- ---- what faults become

-- what a fault of the lines becomes
abbrev pub cause_of : LineFault → Cause
cause_of line.Read = cause.Read
cause_of line.Write = cause.Write
cause_of line.Memory = cause.Memory
cause_of line.TooMuch = cause.TooMuch
