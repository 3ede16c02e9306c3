use Rattle.std.proofs.Common.{Some, ap, sym, ◌∙◌, subst}
use Rattle.std.specs.FinMap as map
use Rattle.std.specs.FinMap.{FinMap}
use Rattle.grain_id.specs.Names.{grain_cmp}
use Rattle.grain_id.proofs.ByGrain.{insert-again}
use Rattle.activation_directory.specs.declared.activation.Activation.{Activation}
use Rattle.idle_collector.specs.Ages.{kind_age}
use Rattle.silo_state.specs.inside.Activations.{Activations, shown}
use Rattle.silo_state.specs.inside.Notes.{AreNoted}
use Rattle.silo_state.specs.Marks.{AllMarked}
use Rattle.silo_state.specs.Shown.{entry_of, entries_of}
use Rattle.silo_state.proofs.AtOnce.{plans_in}
use Rattle.silo_state.proofs.Shows.{get-entries}
use Rattle.silo_state.proofs.activations.Activations.plan_idle.Goals as goal

pub returns-clause-planned : goal.returns-clause-planned
returns-clause-planned g c =
    let m = c.self.inside.directory.activations in
    let grain = c.args.grain.now in
    let a = c.in-Some.activation.now in
    let found = sym c.in-Some.ensures.value in
    plans_in g.L.GrainLogic.logic grain (entry_of a) _ c.args.message.now (sym (ap (λ (k : Activations). map.get k.entries grain) c.self.view_is) ∙ get-entries m grain (Some a) found)
    (c.self.invariant.0 grain a found).known c.plan_idle.result c.plan_idle.ensures

pub invariant_of-self-2 : goal.invariant_of-self-2
invariant_of-self-2 g c =
    let inside = c.self.inside in
    let m = inside.directory.activations in
    subst (λ (n : FinMap grain_cmp Activation). AllMarked g.L.GrainLogic.logic n × AreNoted inside.clock (kind_age inside.ages inside.age) n inside.collector.notes) (sym (insert-again m c.args.grain.now c.in-Some.activation.now (sym c.in-Some.ensures.value))) c.self.invariant

pub returns-clause-unchanged : goal.returns-clause-unchanged
returns-clause-unchanged g c =
    let inside = c.self.inside in
    let m = inside.directory.activations in
    ap (λ (n : FinMap grain_cmp Activation). shown inside.clock inside.age inside.ages n inside.collector) (insert-again m c.args.grain.now c.in-Some.activation.now (sym c.in-Some.ensures.value)) ∙ c.self.view_is
