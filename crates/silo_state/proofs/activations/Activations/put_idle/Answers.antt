use Rattle.std.proofs.Common.{ap, subst, sym, ◌∙◌}
use Rattle.idle_collector.specs.Ages.{kind_age}
use Rattle.idle_collector.specs.Notes.{Collection, noted_if}
use Rattle.silo_state.specs.KeptParts.{kept_grain_in}
use Rattle.silo_state.specs.Marks.{AllMarked}
use Rattle.silo_state.specs.Shown.{entries_of}
use Rattle.silo_state.specs.inside.Notes.{AreNoted}
use Rattle.silo_state.proofs.Resumed.{has_none, idle_all_marked, idle_noted, idle_put, stays_put}
use Rattle.silo_state.proofs.activations.Activations.put_idle.Goals as goal

-- ---- it has an activation

pub returns-then-is_some-clause-put : goal.returns-then-is_some-clause-put
returns-then-is_some-clause-put g c =
    let m = c.self.inside.directory.activations in
    rw (← c.self.view_is) (stays_put m c.args.grain.now (kept_grain_in c.args.parts.now) c.get.result c.get.ensures (sym c.is_some.ensures ∙ c.if-is_some.true))

-- ---- it has none

pub invariant_of-self-2 : goal.invariant_of-self-2
invariant_of-self-2 g c =
    let inside = c.self.inside in
    let logic = g.L.GrainLogic.logic in
    let m = inside.directory.activations in
    let grain = c.args.grain.now in
    let parts = c.args.parts.now in
    let a = c.in_ok-activation.activation in
    let is = c.in_ok-activation.ensures in
    let noted = c.min-noted.result in
    let new = c.enter.new.directory.activations in
    let age_of = kind_age inside.ages inside.age in (
      subst (AllMarked logic) (sym c.in_ok-enter.ensures.entered) (idle_all_marked parts a is m grain noted logic c.self.invariant.0 c.requires),
      subst (λ k. AreNoted inside.clock age_of k c.note_expected.new.self.notes) (sym c.in_ok-enter.ensures.entered)
          (idle_noted parts a is m grain noted inside.clock age_of inside.collector.notes _ c.self.invariant.1
          c.due_moment-due.result c.due_if_used-latest.result c.due_moment-due.ensures c.due_if_used-latest.ensures c.min-noted.ensures
          (ap (λ (k : Collection). k.notes) c.note_expected.ensures ∙ ap (λ (k : Collection). noted_if k.notes k.expected noted) c.in_ok-expect.ensures.expected)),
    )

pub returns-clause-put : goal.returns-clause-put
returns-clause-put g c =
    let m = c.self.inside.directory.activations in
    rw (← c.self.view_is)
    (ap entries_of c.in_ok-enter.ensures.entered
    ∙ idle_put c.args.parts.now c.in_ok-activation.activation c.in_ok-activation.ensures m c.args.grain.now c.min-noted.result
    (has_none m c.args.grain.now (kept_grain_in c.args.parts.now) c.get.result c.get.ensures (sym c.is_some.ensures ∙ c.if-is_some.false)))
