use Rattle.std.proofs.Common.{◌≡◌, ◌⊎◌, None, Some, refl, ap, sym, ◌∙◌, subst}
use Rattle.std.specs.Prelude.{IfSome, option_and_then, option_map, if◌then◌else◌}
use Rattle.std.specs.FinMap as map
use Rattle.std.specs.FinMap.{FinMap}
use Rattle.grain_id.specs.Names.{grain_cmp}
use Rattle.grain_id.proofs.Order.{grain_cmp_total, grain_cmp_exact}
use Rattle.finite_maps.proofs.Maps as maps
use Rattle.activation_directory.specs.declared.activation.Activation.{Activation}
use Rattle.activation_directory.specs.declared.activation.Phase.TheVariants.{Waiting}
use Rattle.grain_logic.specs.Planned.{keep_of}
use Rattle.idle_collector.specs.Ages.{kind_age}
use Rattle.idle_collector.specs.Notes.{Collection}
use Rattle.silo_model.specs.Effect.{put, drop}
use Rattle.silo_state.specs.inside.Activations.{Activations}
use Rattle.silo_state.specs.Shown.{phase_of, entry_of, entries_of}
use Rattle.silo_state.specs.Marks.{AllMarked}
use Rattle.silo_state.specs.Entries.{Closes}
use Rattle.silo_state.proofs.Requests.{marked-removed}
use Rattle.silo_state.proofs.Idle.{still_noted, note_goes, note_is_there, closed_noted, closes_noted}
use Rattle.silo_state.proofs.Shows.{get-entries, close_not, close_shows, closes_marked, stays_at, goes_at, unmoved}
use Rattle.silo_state.proofs.activations.Activations.close.Goals as goal

pub returns-in_default-clause-closes : goal.returns-in_default-clause-closes
returns-in_default-clause-closes g c =
    let m = c.self.inside.directory.activations in
    let grain = c.args.grain.now in
    subst (λ (k : Activations). Closes k.entries grain c.args.turn (option_map phase_of c.args.phase) (keep_of c.args.keep) c.args.last None (entries_of m)) c.self.view_is
    (ap (option_and_then (λ e. map.get e.turns c.args.turn)) (get-entries m grain None (sym c.in_default.ensures.value)), refl)

-- ---- no such turn is open

pub invariant_of-self-in_default-close : goal.invariant_of-self-in_default-close
invariant_of-self-in_default-close g c =
    let inside = c.self.inside in
    let m = inside.directory.activations in
    let grain = c.args.grain.now in
    let a = c.in-Some.activation.now in
    let after = c.close.new.activation in
    let found = sym c.in-Some.ensures.value in
    let same = c.in_default-close.ensures.1 in (
      closes_marked g.L.GrainLogic.logic m grain a after found c.self.invariant.0 c.args.turn c.args.phase (keep_of c.args.keep) c.args.last None c.in_default-close.ensures,
      still_noted inside.clock (kind_age inside.ages inside.age) m inside.collector.notes c.self.invariant.1 grain a after found (ap (λ (x : Activation). x.noted) same) (unmoved g.L.GrainLogic.logic m grain a after found same),
    )

pub returns-in_default-close-clause-closes : goal.returns-in_default-close-clause-closes
returns-in_default-close-clause-closes g c =
    let m = c.self.inside.directory.activations in
    let grain = c.args.grain.now in
    let after = c.close.new.activation in
    subst (λ (k : Activations). Closes k.entries grain c.args.turn (option_map phase_of c.args.phase) (keep_of c.args.keep) c.args.last None (entries_of (map.insert m grain after))) c.self.view_is
    (close_not g.L.GrainLogic.logic m grain c.in-Some.activation.now after (sym c.in-Some.ensures.value) c.self.invariant.0 c.args.turn c.args.phase (keep_of c.args.keep) c.args.last c.in_default-close.ensures)

-- ---- it was, and the activation goes

pub forget_at-requires : goal.forget_at-requires
forget_at-requires g c =
    let inside = c.self.inside in
    let m = inside.directory.activations in
    let grain = c.args.grain.now in
    let a = c.in-Some.activation.now in
    let after = c.close.new.activation in
    let same = closed_noted a after c.args.turn c.args.phase (keep_of c.args.keep) c.args.last c.in-Some-close.sender c.in-Some-close.ensures in
    subst (λ n. IfSome (map.get inside.collector.notes grain) (λ moment. moment ≡ n)) (sym same)
    (note_is_there inside.clock (kind_age inside.ages inside.age) m inside.collector.notes c.self.invariant.1 grain a (sym c.in-Some.ensures.value))

pub invariant_of-self-then-goes : goal.invariant_of-self-then-goes
invariant_of-self-then-goes g c =
    let inside = c.self.inside in
    let m = inside.directory.activations in
    let grain = c.args.grain.now in
    let a = c.in-Some.activation.now in
    let after = c.close.new.activation in
    let found = sym c.in-Some.ensures.value in
    let gone = c.let_go.ensures ∙ maps.remove-insert grain_cmp_total grain_cmp_exact m grain after in (
      subst (λ (left : FinMap grain_cmp Activation). AllMarked g.L.GrainLogic.logic left) (sym gone) (marked-removed g.L.GrainLogic.logic m grain c.self.invariant.0),
      note_goes inside.clock (kind_age inside.ages inside.age) m inside.collector.notes c.self.invariant.1 grain _ _ gone (ap (λ (k : Collection). k.notes) c.forget_at.ensures),
    )

pub returns-then-goes-clause-closes : goal.returns-then-goes-clause-closes
returns-then-goes-clause-closes g c =
    let m = c.self.inside.directory.activations in
    let grain = c.args.grain.now in
    let after = c.close.new.activation in
    let goes = ap (λ b. if b then drop else put (entry_of after)) (sym c.if-goes.ensures) in
    rw (← c.self.view_is)
    (close_shows g.L.GrainLogic.logic m grain c.in-Some.activation.now after (sym c.in-Some.ensures.value) c.self.invariant.0 c.args.turn c.args.phase (keep_of c.args.keep) c.args.last c.in-Some-close.sender c.in-Some-close.ensures
    _ (ap entries_of c.let_go.ensures ∙ goes_at m grain after goes))

-- ---- it was, and the activation stays

pub invariant_of-self-else-goes : goal.invariant_of-self-else-goes
invariant_of-self-else-goes g c =
    let inside = c.self.inside in
    let m = inside.directory.activations in
    let grain = c.args.grain.now in
    let a = c.in-Some.activation.now in
    let after = c.close.new.activation in
    let found = sym c.in-Some.ensures.value in
    let used = subst (λ (k : Activations). (c.args.last ≡ k.times.clock) ⊎ (c.args.phase ≡ Some Waiting)) (sym c.self.view_is) c.requires.used in (
      closes_marked g.L.GrainLogic.logic m grain a after found c.self.invariant.0 c.args.turn c.args.phase (keep_of c.args.keep) c.args.last (Some c.in-Some-close.sender) c.in-Some-close.ensures,
      closes_noted inside.clock (kind_age inside.ages inside.age) m inside.collector.notes c.self.invariant.1 grain a after found c.args.turn c.args.phase (keep_of c.args.keep) c.args.last c.in-Some-close.sender c.in-Some-close.ensures used,
    )

pub returns-clause-closes : goal.returns-clause-closes
returns-clause-closes g c =
    let m = c.self.inside.directory.activations in
    let grain = c.args.grain.now in
    let after = c.close.new.activation in
    let stays = ap (λ b. if b then drop else put (entry_of after)) (sym c.if-goes.ensures) in
    rw (← c.self.view_is)
    (close_shows g.L.GrainLogic.logic m grain c.in-Some.activation.now after (sym c.in-Some.ensures.value) c.self.invariant.0 c.args.turn c.args.phase (keep_of c.args.keep) c.args.last c.in-Some-close.sender c.in-Some-close.ensures
    (entries_of (map.insert m grain after)) (stays_at m grain after stays))
