-- Which fault of a run another fault comes to.
use Rattle.line_text.specs.declared.fault.LineFault.{LineFault}
use Rattle.line_text.specs.declared.fault.LineFault.TheVariants as line
use Rattle.log_host.specs.declared.committing.CommitFault.{CommitFault}
use Rattle.log_host.specs.declared.committing.CommitFault.TheVariants as commit
use Rattle.log_answer.specs.declared.running.LogFault.{LogFault}
use Rattle.log_answer.specs.declared.running.LogFault.TheVariants as fault

abbrev pub fault_of_line : LineFault → LogFault
fault_of_line line.Read = fault.Read
fault_of_line line.Write = fault.Write
fault_of_line line.Memory = fault.Memory
fault_of_line line.TooMuch = fault.TooMuch

abbrev pub fault_of_commit : CommitFault → LogFault
fault_of_commit commit.Memory = fault.Memory
fault_of_commit commit.Host = fault.Write
