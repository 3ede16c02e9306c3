use Rattle.std.proofs.Common.{◌≡◌, ◌++◌, List, length}
use Rattle.tenant_accounts.specs.Kept.{resumed_accounts}
use Rattle.tenant_accounts.specs.Parts.{AreCounted, all_kept_in}
use Rattle.tenant_accounts.specs.declared.parts.AccountParts.{AccountParts}
use Rattle.tenant_accounts.proofs.resuming.resume_all.Given as goal

-- the accounts are those of the parts behind what is left, of which no part counts too many
abbrev pub invariant-parts : goal.invariant-parts
invariant-parts l =
    (behind : List AccountParts) × (l.fn.kept ≡ l.rest ++ behind) × (AreCounted l.rest) × (l.accounts ≡ resumed_accounts l.tenants (all_kept_in behind))

abbrev pub decreases-parts : goal.decreases-parts
decreases-parts l = length l.rest
