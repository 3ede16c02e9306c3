use Rattle.std.proofs.Common.{ap, sym, ◌∙◌}
use Rattle.std.specs.FinMap as map
use Rattle.tenant_accounts.proofs.AccountMaps.{lent, there}
use Rattle.tenant_machine.proofs.Trees.{shown, get-shown, put-shown}
use Rattle.tenant_machine.proofs.by_grain.ByGrain.get_mut.Goals as goal

pub returns : goal.returns
returns c =
    let m = c.self.inside.activations in
    let grain = c.args.grain.now in
    let found = c.get_mut.ensures.value in (
      lent c.get_mut.result _ _ _ _
          (λ some w. put-shown m (c.get_mut.follows.lender w) grain w ((c.get_mut.follows.holds w).3 (there c.get_mut.result _ found some)) ∙ ap (λ d. map.insert d grain w) c.self.view_is)
          (ap shown c.get_mut.follows.holds-at-none ∙ c.self.view_is),
      record { writes_back = tt; value = found ∙ sym (get-shown m grain) ∙ ap (λ d. map.get d grain) c.self.view_is },
    )
