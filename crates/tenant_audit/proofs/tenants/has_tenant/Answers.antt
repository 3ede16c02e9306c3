use Rattle.silo_model.proofs.Common.{◌∙◌, Limits, List, same_text, sym, ℕ}
use Rattle.std.proofs.Common.{rules, tests}
use Rattle.std.proofs.lemmas.Iterator.{YieldsList-from_slice}
use Rattle.std.proofs.lemmas.Iterator.Search.{any_from_yields_List}
use Rattle.finite_maps.proofs.Lists.{list_any-map}
use Rattle.tenant_audit.proofs.tenants.has_tenant.Goals as goal

pub returns : goal.returns
returns c =
    any_from_yields_List (λ (e : List ℕ × Limits). same_text c.args.tenant.now e.0) _ _ c.any.result c.any.ensures.ran (YieldsList-from_slice c.args.table.now cc) (λ x b q k. search (rules, tests))
    ∙ sym (list_any-map (same_text c.args.tenant.now) (λ (e : List ℕ × Limits). e.0) c.args.table.now)
