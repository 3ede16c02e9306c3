use Rattle.activation_directory.proofs.Registers.{opening}
use Rattle.activation_directory.proofs.directory.Directory.seeded.Goals as goal

pub invariant_of-result : goal.invariant_of-result
invariant_of-result c =
    opening c.with_hasher.result.entries c.new.result c.with_hasher-2.result c.with_hasher.ensures.empty c.with_hasher-2.ensures.empty
