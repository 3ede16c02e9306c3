use Rattle.std.proofs.Common.{ap, sym, ◌∙◌}
use Rattle.std.specs.Prelude.{Ok}
use Rattle.silo_model.specs.Stores.{version_value}
use Rattle.silo_state.specs.inside.Storing.{with_state}
use Rattle.silo_state.proofs.Versions.{emptied_version}
use Rattle.silo_state.proofs.storing.clear.Goals as goal

pub returns-in-Ok : goal.returns-in-Ok
returns-in-Ok g c =
    let rows = g.S.GrainStorage.rows c.args.storage.now in
    let after = g.S.GrainStorage.rows c.clear.new.self in
    let grain = c.args.grain.now in
    let version = c.args.version in
    let now = c.in-Ok.version in
    let empty = g.L.GrainLogic.logic.empty grain.kind in
    let clears = c.in-Ok.ensures.answers.0 in (
      ap (with_state empty) clears ∙ (λ i. Ok ((sym (c.in_ok-state.ensures ∙ ap g.L.GrainLogic.logic.empty c.kind.ensures) i, now), after)),
      c.in_ok-told.ensures ∙ ap version_value (c.cleared_version.ensures.after ∙ sym (emptied_version rows grain version now after clears c.cleared_version.ensures.bound)),
      c.in-Ok.ensures.answers.1,
    )
