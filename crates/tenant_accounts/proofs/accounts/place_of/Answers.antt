use Rattle.tenant_accounts.proofs.accounts.place_of.Goals as goal

pub returns-then-is_at-clause-found : goal.returns-then-is_at-clause-found
returns-then-is_at-clause-found c = c.is_at.ensures c.if-is_at.true
