use Rattle.grain_id.proofs.Reading.{caller_read-found}
use Rattle.grain_id.proofs.name_cache.NameCache.read_caller.Goals as goal

pub returns-in-Some-clause-gives : goal.returns-in-Some-clause-gives
returns-in-Some-clause-gives c = caller_read-found c.args.text.now c.in-Some.caller (rw c.in-Some.is at c.in_ok-caller.ensures)
