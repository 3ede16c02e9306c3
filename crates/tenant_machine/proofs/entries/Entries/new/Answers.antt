use Rattle.silo_model.proofs.Common.{◌∙◌, FinMap, ap, grain_cmp, grain_cmp_exact, grain_cmp_total, subst, sym}
use Rattle.finite_maps.proofs.Mapped.{mapped-empty}
use Rattle.activation_directory.specs.declared.activation.Activation.{Activation}
use Rattle.silo_state.specs.Shown.{entry_of, entries_of}
use Rattle.silo_state.specs.Marks.{AllMarked}
use Rattle.silo_state.proofs.Requests.{none_marked}
use Rattle.tenant_machine.proofs.entries.Entries.new.Goals as goal

pub invariant_of-result : goal.invariant_of-result
invariant_of-result g c = subst (λ (m : FinMap grain_cmp Activation). AllMarked g.L.GrainLogic.logic m) (sym c.new.ensures) (none_marked g.L.GrainLogic.logic)

pub returns : goal.returns
returns g c = ap entries_of c.new.ensures ∙ mapped-empty grain_cmp_total grain_cmp_exact entry_of
