use Rattle.std.proofs.Common.{inl}
use Rattle.log_host.proofs.Known.{on_err}
use Rattle.command_parts.proofs.host_logs.HostFilesLogHost.append.Goals as goal

pub returns-clause-err : goal.returns-clause-err
returns-clause-err g c = on_err c.note.result _ (inl tt)
