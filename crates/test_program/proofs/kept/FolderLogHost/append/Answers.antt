use Rattle.std.proofs.Common.{inl}
use Rattle.log_host.proofs.Known.{on_err}
use Rattle.test_program.proofs.kept.FolderLogHost.append.Goals as goal

pub returns-clause-err : goal.returns-clause-err
returns-clause-err c = on_err c.append.result _ (inl tt)
