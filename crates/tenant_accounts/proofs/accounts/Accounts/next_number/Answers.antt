use Rattle.std.proofs.Common.{ap, sym, ◌∙◌}
use Rattle.std.specs.Option.{option_map}
use Rattle.std.specs.FinMap as map
use Rattle.tenant_accounts.proofs.AccountMaps.{get-by_bytes}
use Rattle.tenant_accounts.proofs.Numbers.{admits_by}
use Rattle.tenant_accounts.proofs.accounts.Accounts.next_number.Goals as goal

pub returns-clause-number : goal.returns-clause-number
returns-clause-number c =
    let tenant = c.args.tenant.now in
    let at = c.in_ok-place.ensures.found in
    let found = ap (option_map (λ e. e.1)) (c.in_ok-account.ensures.entry ∙ at.entry) ∙ sym at.found ∙ sym (get-by_bytes c.self.inside.by_name tenant) ∙ ap (λ accounts. map.get accounts tenant) c.self.view_is in
    admits_by c.args.self.now tenant c.in_ok-account.account.now (sym found) c.number_after.result c.number_after.ensures
