use Rattle.std.proofs.Common.{ap, sym, ◌∙◌}
use Rattle.std.specs.Option.{option_copied, option_map}
use Rattle.std.specs.FinMap as map
use Rattle.tenant_accounts.proofs.AccountMaps.{get-by_bytes}
use Rattle.tenant_accounts.proofs.accounts.Accounts.get.Goals as goal

pub returns-in_err-place : goal.returns-in_err-place
returns-in_err-place c =
    ap option_copied c.from_residual.ensures ∙ sym c.in_err-place.ensures.none ∙ sym (get-by_bytes c.self.inside.by_name c.args.tenant.now) ∙ ap (λ accounts. map.get accounts c.args.tenant.now) c.self.view_is

pub returns : goal.returns
returns c =
    let at = c.in_ok-place.ensures.found in
    ap (option_map (λ e. e.1)) (c.in_ok-account.ensures.entry ∙ at.entry) ∙ sym at.found ∙ sym (get-by_bytes c.self.inside.by_name c.args.tenant.now) ∙ ap (λ accounts. map.get accounts c.args.tenant.now) c.self.view_is
