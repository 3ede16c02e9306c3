use Rattle.std.proofs.Common.{ap, sym, ◌∙◌}
use Rattle.std.specs.FinMap as map
use Rattle.std.proofs.lemmas.Result.{on_err_weaker}
use Rattle.grain_id.proofs.ByGrain.{text_insert-again}
use Rattle.tenant_accounts.proofs.accounts.Accounts.send.Goals as goal

pub returns-clause-unchanged : goal.returns-clause-unchanged
returns-clause-unchanged c =
    on_err_weaker c.send.result (λ same. ap (map.insert c.args.self.now c.args.tenant.now) same ∙ text_insert-again c.args.self.now c.args.tenant.now c.in-Some.account.now (sym c.in-Some.ensures.value)) c.send.ensures.unchanged
