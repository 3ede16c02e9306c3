use Rattle.std.proofs.Common.{None, Some, length, ap, sym, ◌∙◌, subst}
use Rattle.std.specs.Option.{option_map}
use Rattle.std.specs.FinMap as map
use Rattle.std.specs.FinMap.{FinMap}
use lib.ListN.{length-map}
use Rattle.grain_id.specs.Names.{grain_cmp}
use Rattle.grain_id.proofs.ByGrain.{insert-again}
use Rattle.activation_directory.specs.declared.activation.Activation.{Activation}
use Rattle.idle_collector.specs.Ages.{kind_age}
use Rattle.silo_model.specs.Machine.{Entry}
use Rattle.silo_state.specs.inside.Activations.{Activations, shown}
use Rattle.silo_state.specs.inside.Notes.{AreNoted}
use Rattle.silo_state.specs.Marks.{AllMarked}
use Rattle.silo_state.specs.Shown.{request_of, entries_of}
use Rattle.silo_state.proofs.Shows.{get-entries}
use Rattle.silo_state.proofs.activations.Activations.waiting.Goals as goal

pub returns-in_default-clause-waiting : goal.returns-in_default-clause-waiting
returns-in_default-clause-waiting g c =
    let m = c.self.inside.directory.activations in
    let grain = c.args.grain.now in
    sym (ap (option_map (λ (e : Entry). length e.queue)) (get-entries m grain None (sym c.in_default.ensures.value))) ∙ ap (λ (k : Activations). option_map (λ (e : Entry). length e.queue) (map.get k.entries grain)) c.self.view_is

pub returns-clause-waiting : goal.returns-clause-waiting
returns-clause-waiting g c =
    let m = c.self.inside.directory.activations in
    let grain = c.args.grain.now in
    let a = c.in-Some.activation.now in
    ap Some (c.len.ensures.count ∙ sym (length-map a.mailbox.waiting request_of))
    ∙ sym (ap (option_map (λ (e : Entry). length e.queue)) (get-entries m grain (Some a) (sym c.in-Some.ensures.value)))
    ∙ ap (λ (k : Activations). option_map (λ (e : Entry). length e.queue) (map.get k.entries grain)) c.self.view_is

pub invariant_of-self-2 : goal.invariant_of-self-2
invariant_of-self-2 g c =
    let inside = c.self.inside in
    let m = inside.directory.activations in
    subst (λ (n : FinMap grain_cmp Activation). AllMarked g.L.GrainLogic.logic n × AreNoted inside.clock (kind_age inside.ages inside.age) n inside.collector.notes) (sym (insert-again m c.args.grain.now c.in-Some.activation.now (sym c.in-Some.ensures.value))) c.self.invariant

pub returns-clause-unchanged : goal.returns-clause-unchanged
returns-clause-unchanged g c =
    let inside = c.self.inside in
    let m = inside.directory.activations in
    ap (λ (n : FinMap grain_cmp Activation). shown inside.clock inside.age inside.ages n inside.collector) (insert-again m c.args.grain.now c.in-Some.activation.now (sym c.in-Some.ensures.value)) ∙ c.self.view_is
