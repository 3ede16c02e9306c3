use Rattle.std.proofs.Common.{sym, ◌∙◌}
use Rattle.tenant_accounts.proofs.Takes.{finds_none, finds_first}
use Rattle.tenant_accounts.proofs.account.Account.first_from.Goals as goal

pub returns-in_default : goal.returns-in_default
returns-in_default c = rw (← c.self.view_is) (finds_none c.self.inside.sends.entries c.self.inside.index c.self.inside.next c.self.invariant.1 c.args.grain.now (sym c.first.ensures ∙ c.in_default.is))

pub returns : goal.returns
returns c = rw (← c.self.view_is) (finds_first c.self.inside.sends.entries c.self.inside.index c.self.inside.next c.self.invariant.1 c.args.grain.now c.in-Some.number c.get.result (sym c.first.ensures ∙ c.in-Some.is) c.get.ensures.value)
