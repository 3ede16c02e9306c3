use Rattle.silo_model.proofs.Common.{◌∙◌, Entries, None, ap, false, opened_if_ready, option_and_then, refl, subst, sym}
use Rattle.std.specs.Prelude.{IfOk}
use Rattle.std.specs.FinMap as map
use Rattle.std.proofs.lemmas.Result.{on_err_weaker}
use Rattle.silo_state.specs.Shown.{entries_of}
use Rattle.silo_state.specs.Entries.{Begins}
use Rattle.silo_state.proofs.Shows.{get-entries, open_shows, begin_marked, unmoved}
use Rattle.tenant_machine.proofs.entries.Entries.open.Goals as goal

pub returns-in_default-clause-begins : goal.returns-in_default-clause-begins
returns-in_default-clause-begins g c =
    let m = c.self.inside.by_grain in
    let grain = c.args.grain.now in
    subst (λ (old : Entries). Begins g.L.GrainLogic.logic old grain false (entries_of m)) c.self.view_is
    (ap (option_and_then (λ e. opened_if_ready g.L.GrainLogic.logic grain e e.phase)) (get-entries m grain None (sym c.in_default.ensures.value)), refl)

pub returns-clause-begins : goal.returns-clause-begins
returns-clause-begins g c =
    let m = c.self.inside.by_grain in
    let grain = c.args.grain.now in
    let after = c.open.new.activation in
    subst (λ (old : Entries). IfOk c.open.result (λ opened. Begins g.L.GrainLogic.logic old grain opened (entries_of (map.insert m grain after)))) c.self.view_is
    (open_shows g.L.GrainLogic.logic m grain c.in-Some.activation.now after (sym c.in-Some.ensures.value) c.self.invariant c.open.result c.open.ensures.opened c.open.ensures.begun)

pub returns-clause-unchanged : goal.returns-clause-unchanged
returns-clause-unchanged g c =
    on_err_weaker c.open.result (λ same. unmoved g.L.GrainLogic.logic c.self.inside.by_grain c.args.grain.now c.in-Some.activation.now c.open.new.activation (sym c.in-Some.ensures.value) same ∙ c.self.view_is) c.open.ensures.unchanged

pub invariant_of-self-2 : goal.invariant_of-self-2
invariant_of-self-2 g c =
    begin_marked g.L.GrainLogic.logic c.self.inside.by_grain c.args.grain.now c.in-Some.activation.now c.open.new.activation (sym c.in-Some.ensures.value) c.self.invariant c.open.result c.open.ensures.begun c.open.ensures.unchanged
