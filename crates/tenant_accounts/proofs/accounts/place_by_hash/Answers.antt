use Rattle.tenant_accounts.proofs.AccountMaps.{found-first}
use Rattle.tenant_accounts.proofs.accounts.place_by_hash.Goals as goal

pub returns-clause-found : goal.returns-clause-found
returns-clause-found c = found-first c.args.by_name.now c.args.tenant.now c.get_index_of.result c.get_index_of.ensures.index
