use Rattle.silo_model.proofs.Common.{◌∙◌, FinMap, ap, grain_cmp, grain_cmp_exact, grain_cmp_total, subst, sym}
use Rattle.std.specs.FinMap as map
use Rattle.finite_maps.proofs.Mapped.{mapped-remove}
use Rattle.activation_directory.specs.declared.activation.Activation.{Activation}
use Rattle.silo_state.specs.Shown.{entry_of, entries_of}
use Rattle.silo_state.specs.Marks.{AllMarked}
use Rattle.silo_state.proofs.Requests.{marked-removed}
use Rattle.silo_state.proofs.Shows.{get-entries}
use Rattle.tenant_machine.proofs.entries.Entries.remove.Goals as goal

pub invariant_of-self : goal.invariant_of-self
invariant_of-self g c =
    subst (λ (m : FinMap grain_cmp Activation). AllMarked g.L.GrainLogic.logic m) (sym c.remove.ensures.removed) (marked-removed g.L.GrainLogic.logic c.self.inside.by_grain c.args.grain.now c.self.invariant)

pub returns-clause-found : goal.returns-clause-found
returns-clause-found g c =
    sym (get-entries c.self.inside.by_grain c.args.grain.now c.remove.result (sym c.remove.ensures.found)) ∙ ap (λ entries. map.get entries c.args.grain.now) c.self.view_is

pub returns-clause-removed : goal.returns-clause-removed
returns-clause-removed g c =
    ap entries_of c.remove.ensures.removed
    ∙ mapped-remove grain_cmp_total grain_cmp_exact entry_of c.self.inside.by_grain c.args.grain.now
    ∙ ap (λ entries. map.remove entries c.args.grain.now) c.self.view_is
