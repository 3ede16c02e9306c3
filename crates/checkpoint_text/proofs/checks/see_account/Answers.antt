use Rattle.std.proofs.Common.{List, arith, map, subst}
use Rattle.std.specs.Prelude.{All}
use Rattle.std.proofs.lemmas.List.{length-map}
use Rattle.tenant_accounts.specs.Sends.{send_of}
use Rattle.checkpoint_text.specs.Rules.{IsSend}
use Rattle.checkpoint_text.proofs.checks.see_account.Goals as goal

pub returns : goal.returns
returns c =
    let sends = c.args.account.now.sends.items in
    (omega arith, omega (arith, length-map sends send_of, c.len-sends.ensures), subst (λ (l : List _). All IsSend (map send_of l)) c.as_slice.ensures.value c.see_sends.ensures)
