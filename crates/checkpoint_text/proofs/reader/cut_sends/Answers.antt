use Rattle.std.proofs.Common.{◌+◌, ◌-◌, arith, map, rules}
use Rattle.tenant_accounts.specs.Sends.{send_of}
use Rattle.checkpoint_text.specs.inside.Reading.{send_at}
use Rattle.checkpoint_text.proofs.Loops.{handed, loop_fails, loop_goes}
use Rattle.checkpoint_text.proofs.reader.cut_sends.Goals as goal

pub returns-in_err-sent : goal.returns-in_err-sent
returns-in_err-sent c =
    handed _ c.from_residual.result _ _ c.from_residual.ensures.1
    (loop_fails send_at c.args.count _ (c.args.count - (c.sends.counter + 1)) c.args.text.now c.sends.rest.now (map send_of c.sends.sends.items) _ (omega (arith, c.sends-test.true)) c.sends.invariant.1 c.in_err-sent.ensures)

pub sends-preserved : goal.sends-preserved
sends-preserved c = (
  search rules,
  loop_goes send_at send_of c.args.count _ (c.args.count - (c.sends.counter + 1)) c.args.text.now c.sends.rest.now c.in_ok-sent.behind.now c.sends.sends.items c.add.new.list.items c.in_ok-sent.sent (omega (arith, c.sends-test.true)) c.sends.invariant.1 c.in_ok-sent.ensures c.in_ok-add.ensures,
)
