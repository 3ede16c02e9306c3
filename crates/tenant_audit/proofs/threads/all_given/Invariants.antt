use Rattle.std.proofs.Common.{◌≡◌, map}
use Rattle.std.specs.Prelude.{Ok}
use Rattle.tenant_audit.proofs.threads.all_given.Given as goal

-- what was given so far was not refused
abbrev pub invariant-results : goal.invariant-results
invariant-results l = map (λ part. Ok part) l.parts.items ≡ l.yielded
