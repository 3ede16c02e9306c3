use Rattle.std.proofs.Common.{◌≡◌, Some, ap, sym, ◌∙◌}
use Rattle.std.specs.Prelude.{Ok, decimal}
use Rattle.request_codec.specs.Tree.{text}
use Rattle.grain_storage.specs.Rows.{written}
use Rattle.silo_state.specs.inside.Storing.{with_state}
use Rattle.silo_state.proofs.Versions.{written_version}
use Rattle.silo_state.proofs.storing.write.Goals as goal

pub returns-in-Ok : goal.returns-in-Ok
returns-in-Ok g c =
    let rows = g.S.GrainStorage.rows c.args.storage.now in
    let after = g.S.GrainStorage.rows c.write.new.self in
    let grain = c.args.grain.now in
    let version = c.args.version in
    let state = c.args.state.now in
    let now = c.in-Ok.version in
    let writes : written rows grain version state ≡ Ok (Some now, after) = (λ i. written rows grain version (sym c.in_ok-content.ensures.cases i)) ∙ c.in-Ok.ensures.answers.0 in (
      ap (with_state state) writes ∙ (λ i. Ok ((sym c.in_ok-state.ensures.cases i, Some now), after)),
      c.in_ok-told.ensures ∙ ap (λ n. text (decimal n)) (c.version_after.ensures.after ∙ sym (written_version rows grain version state now after writes c.version_after.ensures.bound)),
      c.in-Ok.ensures.answers.1,
    )
