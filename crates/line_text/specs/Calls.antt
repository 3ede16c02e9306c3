-- What a call of a reader comes to, and why reading ends with a fault, its writer's too.
use Rattle.std.specs.Prelude.{◌≡◌, ◌≤◌, ℕ, Bool, true, false, List, [], length, take, Option}
use Rattle.std.specs.Io.KnownBytes.{Keeps, Consumes, IsAtEnd}
use Rattle.line_text.specs.Limits.{calls_limit}
use Rattle.line_text.specs.declared.calls.Call.{Call}
use Rattle.line_text.specs.declared.calls.Call.TheVariants.{Gave, Interrupted, Failed}
use Rattle.line_text.specs.declared.calls.ReaderCalls.{ReaderCalls}
use Rattle.line_text.specs.declared.written.WriterCalls.{WriterCalls}
use Rattle.line_text.specs.declared.fault.LineFault.{LineFault}
use Rattle.line_text.specs.declared.fault.LineFault.TheVariants as fault

abbrev pub has_failed : Call → Bool
has_failed (Gave n) = false
has_failed Interrupted = false
has_failed Failed = true

-- The call consumed the bytes that it gave, none only at the end; or it consumed nothing.
abbrev pub Called : Option (List ℕ) → Option (List ℕ) → List ℕ → Call → Type 0
Called old new buffer (Gave n) = (n ≤ length buffer) × Consumes old new (take n buffer) × (n ≡ 0 → IsAtEnd new)
Called old new buffer Interrupted = Keeps old new
Called old new buffer Failed = Keeps old new

-- Reading fails only if the last call of the reader failed, and gives up only if all calls were made. No call of a
-- writer is made.
abbrev pub StopsReading : LineFault → ReaderCalls → Type 0
StopsReading fault.Read calls = calls.failed ≡ true
StopsReading fault.TooMuch calls = calls.made ≡ calls_limit
StopsReading fault.Memory calls = Unit {0}
StopsReading fault.Write calls = ⊥

-- The same, and letting out what was written fails only if a call of the writer failed.
abbrev pub HasCause : LineFault → ReaderCalls → WriterCalls → Type 0
HasCause fault.Read calls writing = calls.failed ≡ true
HasCause fault.TooMuch calls writing = calls.made ≡ calls_limit
HasCause fault.Memory calls writing = Unit {0}
HasCause fault.Write calls writing = writing.failed ≡ true

-- After a fault of reading nothing is read ahead: a call of the reader failed, or would be one too many.
abbrev pub HasNothingAhead : LineFault → List ℕ → Type 0
HasNothingAhead fault.Read ahead = ahead ≡ []
HasNothingAhead fault.TooMuch ahead = ahead ≡ []
HasNothingAhead fault.Memory ahead = Unit {0}
HasNothingAhead fault.Write ahead = Unit {0}
