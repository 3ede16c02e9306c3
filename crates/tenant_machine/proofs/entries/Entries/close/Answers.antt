use Rattle.silo_model.proofs.Common.{◌∙◌, Entries, FinMap, None, Some, ap, drop, grain_cmp, if◌then◌else◌, option_and_then, option_map, put, refl, subst, sym}
use Rattle.std.specs.FinMap as map
use Rattle.grain_logic.specs.Planned.{keep_of}
use Rattle.activation_directory.specs.declared.activation.Activation.{Activation}
use Rattle.silo_state.specs.Marks.{AllMarked}
use Rattle.silo_state.specs.Shown.{phase_of, entry_of, entries_of}
use Rattle.silo_state.specs.Entries.{Closes}
use Rattle.silo_state.proofs.Requests.{marked-removed}
use Rattle.silo_state.proofs.Shows.{get-entries, close_not, close_shows, closes_marked, stays_at, goes_at}
use Rattle.tenant_machine.proofs.entries.Entries.close.Goals as goal

pub returns-in_default : goal.returns-in_default
returns-in_default g c =
    let m = c.self.inside.by_grain in
    let grain = c.args.grain.now in
    subst (λ (old : Entries). Closes old grain c.args.turn (option_map phase_of c.args.phase) (keep_of c.args.keep) c.args.last None (entries_of m)) c.self.view_is
    (ap (option_and_then (λ e. map.get e.turns c.args.turn)) (get-entries m grain None (sym c.in_default.ensures.value)), refl)

-- ---- no such turn is open

pub invariant_of-self-in_default-close : goal.invariant_of-self-in_default-close
invariant_of-self-in_default-close g c =
    closes_marked g.L.GrainLogic.logic c.self.inside.by_grain c.args.grain.now c.in-Some.activation.now c.close.new.activation (sym c.in-Some.ensures.value) c.self.invariant
    c.args.turn c.args.phase (keep_of c.args.keep) c.args.last None c.in_default-close.ensures

pub returns-in_default-close : goal.returns-in_default-close
returns-in_default-close g c =
    let m = c.self.inside.by_grain in
    let grain = c.args.grain.now in
    let after = c.close.new.activation in
    subst (λ (old : Entries). Closes old grain c.args.turn (option_map phase_of c.args.phase) (keep_of c.args.keep) c.args.last None (entries_of (map.insert m grain after))) c.self.view_is
    (close_not g.L.GrainLogic.logic m grain c.in-Some.activation.now after (sym c.in-Some.ensures.value) c.self.invariant c.args.turn c.args.phase (keep_of c.args.keep) c.args.last c.in_default-close.ensures)

-- ---- the activation goes

pub invariant_of-self-then-goes : goal.invariant_of-self-then-goes
invariant_of-self-then-goes g c =
    let m = c.self.inside.by_grain in
    let grain = c.args.grain.now in
    let after = c.close.new.activation in
    let marked = closes_marked g.L.GrainLogic.logic m grain c.in-Some.activation.now after (sym c.in-Some.ensures.value) c.self.invariant c.args.turn c.args.phase (keep_of c.args.keep) c.args.last (Some c.in-Some-close.sender) c.in-Some-close.ensures in
    subst (λ (left : FinMap grain_cmp Activation). AllMarked g.L.GrainLogic.logic left) (sym c.remove.ensures.removed) (marked-removed g.L.GrainLogic.logic (map.insert m grain after) grain marked)

pub returns-then-goes : goal.returns-then-goes
returns-then-goes g c =
    let m = c.self.inside.by_grain in
    let grain = c.args.grain.now in
    let after = c.close.new.activation in
    let goes = ap (λ b. if b then drop else put (entry_of after)) (sym c.if-goes.ensures) in
    rw (← c.self.view_is)
    (close_shows g.L.GrainLogic.logic m grain c.in-Some.activation.now after (sym c.in-Some.ensures.value) c.self.invariant c.args.turn c.args.phase (keep_of c.args.keep) c.args.last c.in-Some-close.sender c.in-Some-close.ensures
    _ (ap entries_of c.remove.ensures.removed ∙ goes_at m grain after goes))

-- ---- the activation stays

pub invariant_of-self-else-goes : goal.invariant_of-self-else-goes
invariant_of-self-else-goes g c =
    closes_marked g.L.GrainLogic.logic c.self.inside.by_grain c.args.grain.now c.in-Some.activation.now c.close.new.activation (sym c.in-Some.ensures.value) c.self.invariant
    c.args.turn c.args.phase (keep_of c.args.keep) c.args.last (Some c.in-Some-close.sender) c.in-Some-close.ensures

pub returns : goal.returns
returns g c =
    let m = c.self.inside.by_grain in
    let grain = c.args.grain.now in
    let after = c.close.new.activation in
    let stays = ap (λ b. if b then drop else put (entry_of after)) (sym c.if-goes.ensures) in
    rw (← c.self.view_is)
    (close_shows g.L.GrainLogic.logic m grain c.in-Some.activation.now after (sym c.in-Some.ensures.value) c.self.invariant c.args.turn c.args.phase (keep_of c.args.keep) c.args.last c.in-Some-close.sender c.in-Some-close.ensures
    (entries_of (map.insert m grain after)) (stays_at m grain after stays))
