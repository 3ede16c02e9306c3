use Rattle.std.proofs.Common.{map, take}
use Rattle.std.specs.Prelude.{All}
use Rattle.tenant_accounts.specs.Sends.{send_of}
use Rattle.checkpoint_text.specs.Rules.{IsSend}
use Rattle.checkpoint_text.proofs.checks.see_sends.Given as goal

abbrev pub invariant-sends : goal.invariant-sends
invariant-sends l = All IsSend (map send_of (take l.sent-index l.sends))
