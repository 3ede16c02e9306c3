use Rattle.tenant_accounts.specs.Parts.{kept_in}
use Rattle.checkpoint_text.specs.inside.Kept.{KeepsAccount}
use Rattle.checkpoint_text.proofs.Standing.{seen_all, seen_more}
use Rattle.checkpoint_text.proofs.checks.see_accounts.Goals as goal

pub accounts-preserved : goal.accounts-preserved
accounts-preserved c =
    seen_more kept_in KeepsAccount c.args.accounts.now c.accounts.account-index c.account-item.result c.accounts-test.true c.account-item.is c.accounts.invariant c.see_account.ensures

pub returns : goal.returns
returns c = seen_all kept_in KeepsAccount c.args.accounts.now c.accounts.account-index c.accounts-test.false c.accounts.invariant
