use Rattle.std.proofs.Common.{inl}
use Rattle.command_parts.proofs.files.MemoryFileLogHost.append.Goals as goal

pub returns-clause-err : goal.returns-clause-err
returns-clause-err c = inl tt
