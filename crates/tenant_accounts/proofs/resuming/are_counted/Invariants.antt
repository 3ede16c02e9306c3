use Rattle.std.proofs.Common.{take}
use Rattle.tenant_accounts.specs.Parts.{AreCounted}
use Rattle.tenant_accounts.proofs.resuming.are_counted.Given as goal

-- none of the parts so far counts too many
abbrev pub invariant-parts : goal.invariant-parts
invariant-parts l = AreCounted (take l.part-index l.kept)
