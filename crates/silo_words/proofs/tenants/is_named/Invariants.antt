use Rattle.std.proofs.Common.{◌≡◌, false, take}
use Rattle.silo_words.specs.Tenants.{is_named}
use Rattle.silo_words.proofs.tenants.is_named.Given as goal

abbrev pub invariant-loop-named : goal.invariant-loop-named
invariant-loop-named l = is_named (take l.named-index l.list) l.tenant ≡ false
