use Rattle.grain_id.proofs.Reading.{grain_read-found}
use Rattle.grain_id.proofs.name_cache.NameCache.read_grain.Goals as goal

pub returns-in-Some-clause-gives : goal.returns-in-Some-clause-gives
returns-in-Some-clause-gives c = grain_read-found c.args.text.now c.in-Some.grain (rw c.in-Some.is at c.in_ok-grain.ensures)
