-- What a fault of reading or of writing comes from, and what is read ahead after it.
use Rattle.std.proofs.Common.{◌≡◌, true, Result, Err}
use Rattle.line_text.specs.Calls.{HasCause, HasNothingAhead, StopsReading}
use Rattle.line_text.specs.Reading.{Reading, IsFresh}
use Rattle.line_text.specs.declared.calls.ReaderCalls.{ReaderCalls}
use Rattle.line_text.specs.declared.written.WriterCalls.{WriterCalls}
use Rattle.line_text.specs.declared.fault.LineFault.{LineFault}
use Rattle.line_text.specs.declared.fault.LineFault.TheVariants as fault

-- what ends reading has its cause
pub cause_of_reading : (e : LineFault) (calls : ReaderCalls) (writing : WriterCalls) → StopsReading e calls → HasCause e calls writing
cause_of_reading fault.Read calls writing cause = cause
cause_of_reading fault.TooMuch calls writing cause = cause
cause_of_reading fault.Memory calls writing cause = tt
cause_of_reading fault.Write calls writing cause = absurd cause

-- what failed to let out what was written has its cause
pub cause_of_flushing : {T : Type 0} (e : LineFault) (calls : ReaderCalls) (writing : WriterCalls) → ◌≡◌ {A = Result T LineFault} (Err e) (Err fault.Write) → writing.failed ≡ true → HasCause e calls writing
cause_of_flushing fault.Read calls writing is failed = absurd cc
cause_of_flushing fault.TooMuch calls writing is failed = absurd cc
cause_of_flushing fault.Memory calls writing is failed = tt
cause_of_flushing fault.Write calls writing is failed = failed

-- after a failed read nothing is read ahead
pub nothing_ahead : (e : LineFault) (reading : Reading) → IsFresh reading → HasNothingAhead e reading.ahead
nothing_ahead fault.Read reading none = none
nothing_ahead fault.TooMuch reading none = none
nothing_ahead fault.Memory reading none = tt
nothing_ahead fault.Write reading none = tt

-- nothing is asked of what is read ahead, where the writer failed
pub ahead_at_flushing : {T : Type 0} (e : LineFault) (reading : Reading) → ◌≡◌ {A = Result T LineFault} (Err e) (Err fault.Write) → HasNothingAhead e reading.ahead
ahead_at_flushing fault.Read reading is = absurd cc
ahead_at_flushing fault.TooMuch reading is = absurd cc
ahead_at_flushing fault.Memory reading is = tt
ahead_at_flushing fault.Write reading is = tt
