use Rattle.std.proofs.Common.{arith}
use Rattle.activation_directory.proofs.Sizes.{count-bound}
use Rattle.activation_directory.proofs.directory.Directory.count.Goals as goal

pub returns-clause-bound : goal.returns-clause-bound
returns-clause-bound c =
    let inside = c.self.inside in
    let tenant = c.args.tenant.now in
    rw (c.of.ensures, c.self.invariant.counted tenant) (omega (arith, count-bound inside.activations inside.places.entries tenant, c.len-all.ensures.len, c.len-all.ensures.small))
