use Rattle.std.proofs.Common.{◌≡◌, drop}
use Rattle.tenant_machine.specs.inside.Sends.{first_place}
use Rattle.tenant_machine.proofs.Firsts.{place_from}
use Rattle.tenant_machine.proofs.account.place_of.Given as goal

-- the place is one of those that are left
abbrev pub invariant-places : goal.invariant-places
invariant-places l = first_place l.grain l.sends ≡ place_from l.grain l.place (first_place l.grain (drop l.place l.sends))
