use Rattle.std.proofs.Common.{ap, sym, ◌∙◌}
use Rattle.std.specs.Option.{option_map}
use Rattle.std.specs.FinMap as map
use Rattle.grain_id.proofs.Order.{grain_cmp_total, grain_cmp_exact}
use Rattle.finite_maps.proofs.Mapped.{get-mapped}
use Rattle.silo_state.specs.inside.Activations.{Activations}
use Rattle.silo_state.specs.Shown.{entry_of}
use Rattle.silo_state.proofs.activations.Activations.get.Goals as goal

pub returns-clause-entry : goal.returns-clause-entry
returns-clause-entry g c =
    ap (option_map entry_of) c.get.ensures
    ∙ sym (get-mapped grain_cmp_total grain_cmp_exact entry_of c.self.inside.directory.activations c.args.grain.now)
    ∙ ap (λ (k : Activations). map.get k.entries c.args.grain.now) c.self.view_is
