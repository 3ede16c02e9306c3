use Rattle.std.proofs.Common.{ℕ, List, [], ◌∷◌, sym, subst}
use Rattle.tenant_audit.specs.inside.Owners.{Gains}
use Rattle.tenant_audit.proofs.Owners.{gains_one}
use Rattle.tenant_audit.proofs.tenants.add.Goals as goal

pub returns : goal.returns
returns c =
    subst (λ (names : List (List ℕ)). Gains c.args.owners.now.keys (c.args.owner ∷ []) names) (sym c.in_ok-insert.ensures.keys) (gains_one c.args.owners.now.keys c.args.owner)
