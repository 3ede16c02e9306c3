use Rattle.tenant_accounts.specs.Sends.{send_of}
use Rattle.checkpoint_text.specs.Rules.{IsSend}
use Rattle.checkpoint_text.proofs.Standing.{seen_all, seen_more}
use Rattle.checkpoint_text.proofs.checks.see_sends.Goals as goal

pub sends-preserved : goal.sends-preserved
sends-preserved c =
    seen_more send_of IsSend c.args.sends.now c.sends.sent-index c.sent-item.result c.sends-test.true c.sent-item.is c.sends.invariant c.see_send.ensures

pub returns : goal.returns
returns c = seen_all send_of IsSend c.args.sends.now c.sends.sent-index c.sends-test.false c.sends.invariant
