use Rattle.std.proofs.Common.{ap, ℕ}
use Rattle.grain_kinds.specs.Kinds.{newest_kinds}
use Rattle.command_parts.specs.Setups.{starting, version_of}
use Rattle.silo_program.proofs.starting.start_of.Goals as goal

pub returns-clause-starts : goal.returns-clause-starts
returns-clause-starts c = ap (λ (n : ℕ). starting (version_of newest_kinds n) c.args.named.tenants c.args.age c.args.named.ages) c.number.ensures
