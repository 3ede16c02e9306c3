-- The code and the text of a fault, as docs/formats.md lists them; and the faults that refused lines are told as.
use Rattle.std.specs.Prelude.{ℕ, List, ◌++◌, codes}
use Rattle.grain_id.specs.Names.{grain_text}
use Rattle.silo_event.specs.declared.fault.Fault.{Fault}
use Rattle.silo_event.specs.declared.fault.Fault.TheVariants.{NotARequest, TooLong, TooDeep, NotWhole, NotHex, NotWellFormed, UnknownTenant}
use Rattle.silo_event.specs.declared.fault.Fault.TheVariants.{UnknownKind, AcrossTenants, NoActivation, MailboxFull, NoNumber}
use Rattle.silo_event.specs.declared.fault.Fault.TheVariants.{StorageFailed, StateChanged, VersionsSpent, UnknownMethod, Misfit}
use Rattle.silo_event.specs.declared.fault.Fault.TheVariants.{OutOfRange, TooLarge, NoMemory}
use Rattle.silo_event.specs.declared.refusal.Refusal.{Refusal}
use Rattle.silo_event.specs.declared.refusal.Refusal.TheVariants as refusal

abbrev pub fault_code : Fault → ℕ
fault_code NotARequest = 10
fault_code TooLong = 11
fault_code TooDeep = 12
fault_code NotWhole = 13
fault_code NotHex = 14
fault_code NotWellFormed = 20
fault_code (UnknownTenant tenant) = 21
fault_code (UnknownKind kind) = 22
fault_code (AcrossTenants from to) = 40
fault_code (NoActivation tenant) = 41
fault_code (MailboxFull grain) = 42
fault_code (NoNumber tenant) = 43
fault_code StorageFailed = 53
fault_code (StateChanged grain) = 54
fault_code (VersionsSpent grain) = 56
fault_code UnknownMethod = 60
fault_code Misfit = 61
fault_code OutOfRange = 62
fault_code TooLarge = 63
fault_code NoMemory = 70

abbrev pub fault_text : Fault → List ℕ
fault_text NotARequest = codes "line is not a request"
fault_text TooLong = codes "line is too long"
fault_text TooDeep = codes "arguments are too deep"
fault_text NotWhole = codes "number is not a whole number of 64 bits"
fault_text NotHex = codes "bytes are not well formed"
fault_text NotWellFormed = codes "grain name is not well formed"
fault_text (UnknownTenant tenant) = codes "tenant " ++ tenant ++ codes " is unknown"
fault_text (UnknownKind kind) = codes "kind " ++ kind ++ codes " is unknown"
fault_text (AcrossTenants from to) = codes "tenant " ++ from ++ codes " may not call a grain of tenant " ++ to
fault_text (NoActivation tenant) = codes "tenant " ++ tenant ++ codes " has no free activation"
fault_text (MailboxFull grain) = codes "mailbox of " ++ grain_text grain ++ codes " is full"
fault_text (NoNumber tenant) = codes "tenant " ++ tenant ++ codes " has no request number left"
fault_text StorageFailed = codes "storage failed"
fault_text (StateChanged grain) = codes "stored state of " ++ grain_text grain ++ codes " has changed"
fault_text (VersionsSpent grain) = codes "versions of " ++ grain_text grain ++ codes " are spent"
fault_text UnknownMethod = codes "method is unknown"
fault_text Misfit = codes "arguments do not fit"
fault_text OutOfRange = codes "result is out of range"
fault_text TooLarge = codes "state is too large"
fault_text NoMemory = codes "turn met want of memory"

-- what a client is told whose line is refused
abbrev pub refusal_fault : Refusal → Fault
refusal_fault refusal.TooLong = TooLong
refusal_fault refusal.TooDeep = TooDeep
refusal_fault refusal.NotWhole = NotWhole
refusal_fault refusal.NotHex = NotHex
refusal_fault refusal.NotWellFormed = NotWellFormed
refusal_fault refusal.TooLarge = TooLarge
