use Rattle.std.proofs.Common.{◌+◌, ◌-◌, arith, map, rules}
use Rattle.tenant_accounts.specs.Parts.{kept_in}
use Rattle.checkpoint_text.specs.inside.Reading.{account_at}
use Rattle.checkpoint_text.proofs.Loops.{handed, loop_fails, loop_goes}
use Rattle.checkpoint_text.proofs.reader.cut_each_account.Goals as goal

pub returns-in_err-account : goal.returns-in_err-account
returns-in_err-account c =
    handed _ c.from_residual.result _ _ c.from_residual.ensures.1
    (loop_fails account_at c.args.count _ (c.args.count - (c.accounts.counter + 1)) c.args.text.now c.accounts.rest.now (map kept_in c.accounts.accounts.items) _ (omega (arith, c.accounts-test.true)) c.accounts.invariant.1 c.in_err-account.ensures)

pub accounts-preserved : goal.accounts-preserved
accounts-preserved c = (
  search rules,
  loop_goes account_at kept_in c.args.count _ (c.args.count - (c.accounts.counter + 1)) c.args.text.now c.accounts.rest.now c.in_ok-account.behind.now c.accounts.accounts.items c.add.new.list.items c.in_ok-account.account (omega (arith, c.accounts-test.true)) c.accounts.invariant.1 c.in_ok-account.ensures c.in_ok-add.ensures,
)
