use Rattle.std.proofs.Common.{ap, sym, ◌∙◌}
use Rattle.tenant_accounts.specs.Kept.{Account}
use Rattle.tenant_accounts.specs.Sends.{first_send}
use Rattle.tenant_accounts.proofs.Senders.{first_call}
use Rattle.tenant_accounts.proofs.account.Account.first.Goals as goal

pub returns : goal.returns
returns c =
    sym (ap (λ (a : Account). first_send a.sends) (sym c.self.view_is)
    ∙ first_call c.self.inside.sends.entries c.in-Some.field-0-0.now c.in-Some.sent.now c.in-Some.ensures.first)
