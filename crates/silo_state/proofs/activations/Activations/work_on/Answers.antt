use Rattle.std.proofs.Common.{ap, ◌∙◌}
use Rattle.std.specs.Prelude.{option_map}
use Rattle.silo_model.specs.Todo.{work_on}
use Rattle.silo_state.specs.Work.{step_at}
use Rattle.silo_state.proofs.Works.{work-same}
use Rattle.silo_state.proofs.activations.Activations.work_on.Goals as goal

pub returns : goal.returns
returns g c =
    let logic = g.L.GrainLogic.logic in
    let grain = c.args.grain.now in
    let a = c.in-Some.activation.now in
    ap (option_map (step_at grain)) c.possible_work.ensures ∙ work-same logic grain a c.in-Some.ensures.marked a.phase
    ∙ ap (work_on logic grain) c.in-Some.ensures.entry
