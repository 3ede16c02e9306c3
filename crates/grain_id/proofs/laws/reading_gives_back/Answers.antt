use Rattle.grain_id.specs.Words.{is_word}
use Rattle.grain_id.specs.declared.fault.IdFault.TheVariants as faults
use Rattle.grain_id.proofs.Reading.{grain_read-grain_text, caller_read-client_text, part-passes}
use Rattle.grain_id.proofs.laws.reading_gives_back.Goals as goal

pub returns-clause-grains : goal.returns-clause-grains
returns-clause-grains c = grain_read-grain_text

pub returns-clause-callers : goal.returns-clause-callers
returns-clause-callers c = caller_read-client_text

pub returns-clause-tenants : goal.returns-clause-tenants
returns-clause-tenants c = part-passes is_word faults.Tenant

pub returns-clause-kinds : goal.returns-clause-kinds
returns-clause-kinds c = part-passes is_word faults.Kind
