use Rattle.std.proofs.Common.{◌≡◌, None, Some, ap, sym, ◌∙◌, subst}
use Rattle.std.specs.FinMap as map
use Rattle.std.specs.FinMap.{FinMap}
use Rattle.grain_id.specs.Names.{grain_cmp}
use Rattle.grain_id.proofs.Order.{grain_cmp_total, grain_cmp_exact}
use Rattle.finite_maps.proofs.Mapped.{mapped-remove}
use Rattle.finite_maps.proofs.Maps as maps
use Rattle.idle_collector.specs.Ages.{kind_age}
use Rattle.activation_directory.specs.declared.activation.Activation.{Activation}
use Rattle.idle_collector.specs.Notes.{Collection}
use Rattle.silo_state.specs.inside.Activations.{Activations}
use Rattle.silo_state.specs.inside.Notes.{noted_at}
use Rattle.silo_state.specs.Shown.{entry_of, entries_of}
use Rattle.silo_state.specs.Marks.{AllMarked}
use Rattle.silo_state.proofs.Requests.{marked-removed}
use Rattle.silo_state.proofs.Idle.{note_goes, note_is_there}
use Rattle.silo_state.proofs.Shows.{get-entries}
use Rattle.silo_state.proofs.activations.Activations.remove.Goals as goal

-- ---- it has no activation

pub invariant_of-self : goal.invariant_of-self
invariant_of-self g c =
    let inside = c.self.inside in
    let m = inside.directory.activations in
    let grain = c.args.grain.now in
    let none : map.get inside.collector.notes grain ≡ None = c.self.invariant.1.notes grain ∙ ap noted_at (sym c.in_default.ensures.found) in (
      subst (λ (m : FinMap grain_cmp Activation). AllMarked g.L.GrainLogic.logic m) (sym c.remove.ensures.removed) (marked-removed g.L.GrainLogic.logic m grain c.self.invariant.0),
      note_goes inside.clock (kind_age inside.ages inside.age) m inside.collector.notes c.self.invariant.1 grain _ _ c.remove.ensures.removed (sym (maps.remove-absent grain_cmp_total grain_cmp_exact inside.collector.notes grain none)),
    )

pub returns-in_default-clause-found : goal.returns-in_default-clause-found
returns-in_default-clause-found g c =
    sym (get-entries c.self.inside.directory.activations c.args.grain.now None (sym c.in_default.ensures.found)) ∙ ap (λ (k : Activations). map.get k.entries c.args.grain.now) c.self.view_is

pub returns-in_default-clause-removed : goal.returns-in_default-clause-removed
returns-in_default-clause-removed g c =
    ap entries_of c.remove.ensures.removed
    ∙ mapped-remove grain_cmp_total grain_cmp_exact entry_of c.self.inside.directory.activations c.args.grain.now
    ∙ ap (λ (k : Activations). map.remove k.entries c.args.grain.now) c.self.view_is

-- ---- it has one, and its note goes

pub forget_at-requires : goal.forget_at-requires
forget_at-requires g c =
    let inside = c.self.inside in
    note_is_there inside.clock (kind_age inside.ages inside.age) inside.directory.activations inside.collector.notes c.self.invariant.1 c.args.grain.now c.in-Some.activation (sym c.in-Some.ensures.found)

pub invariant_of-self-2 : goal.invariant_of-self-2
invariant_of-self-2 g c =
    let inside = c.self.inside in
    let m = inside.directory.activations in
    let grain = c.args.grain.now in (
      subst (λ (m : FinMap grain_cmp Activation). AllMarked g.L.GrainLogic.logic m) (sym c.remove.ensures.removed) (marked-removed g.L.GrainLogic.logic m grain c.self.invariant.0),
      note_goes inside.clock (kind_age inside.ages inside.age) m inside.collector.notes c.self.invariant.1 grain _ _ c.remove.ensures.removed (ap (λ (k : Collection). k.notes) c.forget_at.ensures),
    )

pub returns-clause-found : goal.returns-clause-found
returns-clause-found g c =
    sym (get-entries c.self.inside.directory.activations c.args.grain.now (Some c.in-Some.activation) (sym c.in-Some.ensures.found)) ∙ ap (λ (k : Activations). map.get k.entries c.args.grain.now) c.self.view_is

pub returns-clause-removed : goal.returns-clause-removed
returns-clause-removed g c =
    ap entries_of c.remove.ensures.removed
    ∙ mapped-remove grain_cmp_total grain_cmp_exact entry_of c.self.inside.directory.activations c.args.grain.now
    ∙ ap (λ (k : Activations). map.remove k.entries c.args.grain.now) c.self.view_is
