use Rattle.std.proofs.Common.{◌≡◌, false, None, is_some, refl, ap, sym, ◌∙◌, subst}
use Rattle.std.specs.Prelude.{IfOk, option_and_then}
use Rattle.std.specs.FinMap as map
use Rattle.std.proofs.lemmas.Result.{on_err_weaker}
use Rattle.idle_collector.specs.Ages.{kind_age}
use Rattle.silo_model.specs.Turns.{opened_if_ready}
use Rattle.silo_state.specs.inside.Activations.{Activations}
use Rattle.silo_state.specs.Shown.{entries_of}
use Rattle.silo_state.proofs.Idle.{begins_noted, begun_noted}
use Rattle.silo_state.specs.Entries.{Begins, opened_turn}
use Rattle.silo_state.proofs.Shows.{get-entries, begin_shows, begin_turn, begin_marked, unmoved}
use Rattle.silo_state.proofs.activations.Activations.begin.Goals as goal

pub returns-in_default-clause-begins : goal.returns-in_default-clause-begins
returns-in_default-clause-begins g c =
    let m = c.self.inside.directory.activations in
    let grain = c.args.grain.now in
    subst (λ (k : Activations). Begins g.L.GrainLogic.logic k.entries grain false (entries_of m)) c.self.view_is
    (ap (option_and_then (λ e. opened_if_ready g.L.GrainLogic.logic grain e e.phase)) (get-entries m grain None (sym c.in_default.ensures.value)), refl)

pub returns-in_default-clause-turn : goal.returns-in_default-clause-turn
returns-in_default-clause-turn g c =
    let m = c.self.inside.directory.activations in
    let grain = c.args.grain.now in
    sym (ap (opened_turn g.L.GrainLogic.logic grain) (ap (λ (k : Activations). map.get k.entries grain) (sym c.self.view_is) ∙ get-entries m grain None (sym c.in_default.ensures.value)))

pub returns-clause-begins : goal.returns-clause-begins
returns-clause-begins g c =
    let m = c.self.inside.directory.activations in
    let grain = c.args.grain.now in
    let after = c.begin.new.activation in
    subst (λ (k : Activations). IfOk c.begin.result (λ turn. Begins g.L.GrainLogic.logic k.entries grain (is_some turn) (entries_of (map.insert m grain after)))) c.self.view_is
    (begin_shows g.L.GrainLogic.logic m grain c.in-Some.activation.now after (sym c.in-Some.ensures.value) c.self.invariant.0 c.begin.result c.begin.ensures.turn c.begin.ensures.begun)

pub returns-clause-turn : goal.returns-clause-turn
returns-clause-turn g c =
    let m = c.self.inside.directory.activations in
    let grain = c.args.grain.now in
    subst (λ (k : Activations). IfOk c.begin.result (λ turn. turn ≡ opened_turn g.L.GrainLogic.logic grain (map.get k.entries grain))) c.self.view_is
    (begin_turn g.L.GrainLogic.logic m grain c.in-Some.activation.now c.begin.new.activation (sym c.in-Some.ensures.value) c.self.invariant.0 c.begin.result c.begin.ensures.turn)

pub returns-clause-unchanged : goal.returns-clause-unchanged
returns-clause-unchanged g c =
    on_err_weaker c.begin.result (λ same. unmoved g.L.GrainLogic.logic c.self.inside.directory.activations c.args.grain.now c.in-Some.activation.now c.begin.new.activation (sym c.in-Some.ensures.value) same ∙ ap (λ (k : Activations). k.entries) c.self.view_is) c.begin.ensures.unchanged

pub invariant_of-self-2 : goal.invariant_of-self-2
invariant_of-self-2 g c =
    let logic = g.L.GrainLogic.logic in
    let inside = c.self.inside in
    let m = inside.directory.activations in
    let grain = c.args.grain.now in
    let a = c.in-Some.activation.now in
    let after = c.begin.new.activation in
    let found = sym c.in-Some.ensures.value in (
      begin_marked logic m grain a after found c.self.invariant.0 c.begin.result c.begin.ensures.begun c.begin.ensures.unchanged,
      begins_noted inside.clock (kind_age inside.ages inside.age) m inside.collector.notes c.self.invariant.1 grain a after found (begun_noted a after c.begin.result c.begin.ensures.begun c.begin.ensures.unchanged) logic is_some c.begin.result
          (begin_shows logic m grain a after found c.self.invariant.0 c.begin.result c.begin.ensures.turn c.begin.ensures.begun) (on_err_weaker c.begin.result (unmoved logic m grain a after found) c.begin.ensures.unchanged),
    )
