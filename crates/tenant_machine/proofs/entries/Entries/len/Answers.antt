use Rattle.silo_model.proofs.Common.{◌∙◌, ap, grain_cmp_exact, grain_cmp_total, sym}
use Rattle.std.specs.FinMap as map
use Rattle.finite_maps.proofs.Mapped.{len-mapped}
use Rattle.silo_state.specs.Shown.{entry_of}
use Rattle.tenant_machine.proofs.entries.Entries.len.Goals as goal

pub returns-clause-count : goal.returns-clause-count
returns-clause-count g c = c.len.ensures.count ∙ sym (len-mapped grain_cmp_total grain_cmp_exact entry_of c.self.inside.by_grain) ∙ ap map.len c.self.view_is
