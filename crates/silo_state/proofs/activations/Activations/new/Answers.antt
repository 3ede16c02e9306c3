use Rattle.std.proofs.Common.{ap, sym, ◌∙◌, subst}
use Rattle.std.specs.FinMap.{FinMap}
use Rattle.grain_id.specs.Names.{grain_cmp}
use Rattle.grain_id.proofs.Order.{grain_cmp_total, grain_cmp_exact}
use Rattle.finite_maps.proofs.Mapped.{mapped-empty}
use Rattle.activation_directory.specs.declared.activation.Activation.{Activation}
use Rattle.activation_directory.specs.Register.{Register}
use Rattle.idle_collector.specs.Ages.{kind_age}
use Rattle.idle_collector.specs.Notes.{Collection}
use Rattle.silo_model.specs.Machine.{Entries}
use Rattle.silo_state.specs.Shown.{entry_of, entries_of}
use Rattle.silo_state.specs.Marks.{AllMarked}
use Rattle.silo_state.specs.inside.Notes.{AreNoted}
use Rattle.silo_state.proofs.Requests.{none_marked}
use Rattle.silo_state.proofs.Idle.{none_noted}
use Rattle.silo_state.proofs.activations.Activations.new.Goals as goal

pub invariant_of-result : goal.invariant_of-result
invariant_of-result g c =
    let entries = ap (λ (d : Register). entries_of d.activations) c.seeded.ensures ∙ mapped-empty grain_cmp_total grain_cmp_exact entry_of in (
      subst (λ (d : Register). AllMarked g.L.GrainLogic.logic d.activations) (sym c.seeded.ensures) (none_marked g.L.GrainLogic.logic),
      subst (λ (p : FinMap grain_cmp Activation × Collection). AreNoted c.args.clock (kind_age c.args.ages c.args.age) p.0 p.1.notes) (λ i. ((sym c.seeded.ensures i).activations, sym c.seeded-2.ensures i)) (none_noted c.args.clock (kind_age c.args.ages c.args.age)),
    )

pub returns : goal.returns
returns g c =
    let entries = ap (λ (d : Register). entries_of d.activations) c.seeded.ensures ∙ mapped-empty grain_cmp_total grain_cmp_exact entry_of in
    λ i. record { times = record { clock = c.args.clock; age = c.args.age; ages = c.args.ages }; entries = entries i; expected = (c.seeded-2.ensures i).expected }
