use Rattle.std.proofs.Common.{sym, ◌∙◌, subst}
use Rattle.idle_collector.specs.Ages.{kind_age}
use Rattle.idle_collector.specs.Notes.{HoldsDue}
use Rattle.silo_state.specs.inside.Sweeps.{without_due}
use Rattle.silo_state.proofs.Sweeps.{due_go}
use Rattle.silo_state.proofs.activations.Activations.sweep.Goals as goal

pub returns-clause-swept : goal.returns-clause-swept
returns-clause-swept g c =
    let inside = c.self.inside in
    let notes = inside.collector.notes in
    let grains = c.as_slice.result.now in
    let same = c.loop-grain.invariant in
    let holds = subst (HoldsDue notes inside.clock) (sym c.as_slice.ensures.value) (subst (λ n. HoldsDue notes n c.in_ok-come.come.items) c.get.ensures.value c.in_ok-come.ensures) in
    c.let_due_go.ensures.left
    ∙ (λ i. without_due (same.1 i).clock (kind_age (same.1 i).ages (same.1 i).age) (same.0 i) grains)
    ∙ rw (← c.self.view_is) (due_go inside.clock (kind_age inside.ages inside.age) inside.directory.activations notes c.self.invariant.1 grains holds)
