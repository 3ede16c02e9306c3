use Rattle.silo_model.proofs.Common.{◌∙◌, ap, grain_cmp_exact, grain_cmp_total, option_map, sym}
use Rattle.std.specs.FinMap as map
use Rattle.finite_maps.proofs.Mapped.{get-mapped}
use Rattle.silo_state.specs.Shown.{entry_of}
use Rattle.tenant_machine.proofs.entries.Entries.get.Goals as goal

pub returns-clause-entry : goal.returns-clause-entry
returns-clause-entry g c =
    ap (option_map entry_of) c.get.ensures
    ∙ sym (get-mapped grain_cmp_total grain_cmp_exact entry_of c.self.inside.by_grain c.args.grain.now)
    ∙ ap (λ entries. map.get entries c.args.grain.now) c.self.view_is
