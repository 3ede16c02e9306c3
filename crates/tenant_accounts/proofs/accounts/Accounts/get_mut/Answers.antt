use Rattle.std.proofs.Common.{ap, sym, ◌∙◌}
use Rattle.std.specs.Option.{ghost_name_of, option_copied_mut}
use mathlib.Core.Logic.{inr}
use borrow.Follows.Closed.{read_of}
use Rattle.std.specs.FinMap as map
use Rattle.tenant_accounts.specs.Kept.{Account}
use Rattle.tenant_accounts.proofs.AccountMaps.{get-by_bytes, value-placed, by_bytes-placed}
use Rattle.tenant_accounts.proofs.accounts.Accounts.get_mut.Goals as goal

pub returns-in_err-place : goal.returns-in_err-place
returns-in_err-place c = (
  ap inr c.self.view_is ∙ sym (ap (λ r. read_of (ghost_name_of r) (map.insert c.args.self.now c.args.tenant.now) c.args.self.now) c.from_residual.ensures),
  ap option_copied_mut c.from_residual.ensures ∙ sym c.in_err-place.ensures.none ∙ sym (get-by_bytes c.self.inside.by_name c.args.tenant.now) ∙ ap (λ accounts. map.get accounts c.args.tenant.now) c.self.view_is,
)

pub returns : goal.returns
returns c =
    let m = c.self.inside.by_name in
    let tenant = c.args.tenant.now in
    let at = c.in_ok-place.ensures.found in
    let written = λ (w : Account). by_bytes-placed m c.in_ok-place.place tenant at c.get_index_mut.ensures.unique w ∙ ap (λ d. map.insert d tenant w) c.self.view_is in (
      λ i. read_of (ghost_name_of c.get_index_mut.result) (λ w. written w i) (c.self.view_is i),
      c.get_index_mut.ensures.value ∙ value-placed m c.in_ok-place.place tenant at ∙ sym (get-by_bytes m tenant) ∙ ap (λ d. map.get d tenant) c.self.view_is,
    )
