use Rattle.std.proofs.Common.{ap, sym, ◌∙◌}
use Rattle.grain_id.proofs.Order.{grain_cmp_total, grain_cmp_exact}
use Rattle.silo_model.specs.Whole.{is_of}
use Rattle.silo_model.specs.Contexts.{active_in}
use Rattle.finite_maps.proofs.Mapped.{len-mapped, mapped-part}
use Rattle.std.specs.FinMap as map
use Rattle.silo_state.specs.inside.Activations.{Activations}
use Rattle.silo_state.specs.Shown.{entry_of}
use Rattle.silo_state.proofs.activations.Activations.count.Goals as goal

pub returns-clause-count : goal.returns-clause-count
returns-clause-count g c =
    let activations = c.self.inside.directory.activations in
    let tenant = c.args.tenant.now in
    c.count.ensures.count
    ∙ sym (len-mapped grain_cmp_total grain_cmp_exact entry_of (map.retain_keys activations (is_of tenant)))
    ∙ ap map.len (mapped-part grain_cmp_total grain_cmp_exact entry_of activations (is_of tenant))
    ∙ ap (λ (k : Activations). active_in k.entries tenant) c.self.view_is
