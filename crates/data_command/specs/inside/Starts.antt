-- What a start of a log comes to, and its parts.
use Rattle.std.specs.Prelude.{◌≡◌, ◌++◌, ℕ, ◌+◌, Bool, false, List, [], Option, Some}
use Rattle.silo_model.specs.Opening.{opening}
use Rattle.silo_core.specs.History.{History}
use Rattle.log_text.specs.Head.{first_sum, head_text, name_of}
use Rattle.log_host.specs.Lasting.{lines_in}
use Rattle.log_host.specs.Laws.{restarted}
use Rattle.log_answer.specs.Answers.{HasLeft}
use Rattle.log_answer.specs.Runs.{GoesOn}
use Rattle.log_answer.specs.declared.running.LogFault.{LogFault}
use Rattle.log_answer.specs.declared.running.LogFault.TheVariants as log_fault
use Rattle.log_answer.specs.declared.starting.AgainFault.{AgainFault}
use Rattle.log_answer.specs.declared.starting.AgainFault.TheVariants as again_why
use Rattle.log_host.specs.declared.host.OpenFault.{OpenFault}
use Rattle.log_host.specs.declared.host.OpenFault.TheVariants as open_fault
use Rattle.command_parts.specs.Setups.{Start}
use Rattle.command_parts.specs.declared.failure.Cause.{Cause}
use Rattle.command_parts.specs.declared.failure.Cause.TheVariants as cause
use Rattle.data_command.specs.Data.{IsFound, LogClaims, StartsFrom, data_log, kept_bytes}
use Rattle.data_command.specs.Words.{head_words}
use Rattle.data_command.specs.declared.fault.DataFault.{DataFault}
use Rattle.data_command.specs.declared.starting.StartedLog.{StartedLog}
use Rattle.data_command.specs.declared.fault.DataFault.TheVariants as data_fault

-- Of the history to which the lines lead that were found the silo has what is left.
pub record WasStarted (keeps : Bool) (start : Start) (sends : ℕ) (log : LogClaims) (silo : History) : Type 0 where
  pub found : Option (List ℕ)
  pub was : IsFound log found
  pub all : History
  pub has : HasLeft keeps all silo
  pub starts : StartsFrom start sends found all

-- And the log goes on at its place, and is said to have no lines only if there are none. It has the batches that were found behind its
-- head, and nothing behind them; nothing was done to it since.
pub record IsStarted (keeps : Bool) (start : Start) (sends : ℕ) (log : LogClaims) (begun : StartedLog) (silo : History) : Type 0 where
  pub was : WasStarted keeps start sends log silo
  pub number : was.starts.number ≡ begun.number
  pub named : begun.place.name ≡ name_of was.starts.number
  pub none : begun.has_lines ≡ false → lines_in (data_log start sends was.starts.number) was.starts.bytes ≡ []
  pub goes_on : GoesOn start.version.logic sends (opening start.setup) (first_sum (head_words start sends) was.starts.number) begun.place
      (restarted (data_log start sends was.starts.number) was.starts.bytes) silo.whole
  pub fresh : log.old.acts ≡ Some [] → log.new.acts ≡ Some []
  pub kept : log.old.acts ≡ Some [] → log.new.begun
      ≡ Some (head_text (head_words start sends) was.starts.number ++ kept_bytes start sends was.starts.number was.starts.bytes)
  pub past : log.new.past ≡ log.old.past

-- why a log isn't answered again whose head has so many lines
abbrev pub again_fault : ℕ → AgainFault → DataFault
again_fault lines again_why.Memory = data_fault.Failed cause.Memory
again_fault lines (again_why.Refused before) = data_fault.Refused (1 + (lines + before))
again_fault lines (again_why.Otherwise before) = data_fault.Otherwise (1 + (lines + before))

-- what a fault of opening is
abbrev pub opening_cause : OpenFault → Cause
opening_cause open_fault.Memory = cause.Memory
opening_cause open_fault.InUse = cause.InUse
opening_cause open_fault.Read = cause.Read
opening_cause open_fault.Write = cause.Write

-- what a fault of the run is
abbrev pub running_cause : LogFault → Cause
running_cause log_fault.Read = cause.Read
running_cause log_fault.Write = cause.Write
running_cause log_fault.Memory = cause.Memory
running_cause log_fault.TooMuch = cause.TooMuch
