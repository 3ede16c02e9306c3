use Rattle.std.proofs.Common.{inl}
use Rattle.test_program.proofs.endless.EndlessFileLogHost.append.Goals as goal

pub returns-clause-err : goal.returns-clause-err
returns-clause-err c = inl tt
