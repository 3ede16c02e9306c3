use Rattle.std.proofs.Common.{map, take}
use Rattle.std.specs.Prelude.{All}
use Rattle.tenant_accounts.specs.Parts.{kept_in}
use Rattle.checkpoint_text.specs.inside.Kept.{KeepsAccount}
use Rattle.checkpoint_text.proofs.checks.see_accounts.Given as goal

abbrev pub invariant-accounts : goal.invariant-accounts
invariant-accounts l = All KeepsAccount (map kept_in (take l.account-index l.accounts))
