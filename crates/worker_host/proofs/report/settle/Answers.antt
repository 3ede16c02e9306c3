use Rattle.std.specs.Prelude.{map as map_list}
use Rattle.silo_model.proofs.Lawful.{lawful_readers}
use Rattle.worker_host.proofs.Served.{all_answered}
use Rattle.worker_host.proofs.report.settle.Goals as goal

pub served_answers-requires-clause-quiet : goal.served_answers-requires-clause-quiet
served_answers-requires-clause-quiet g c = c.is_quiet.ensures.0 c.in_ok-must_hold.ensures

pub returns-clause-answered : goal.returns-clause-answered
returns-clause-answered g c =
    let logic = g.L.GrainLogic.logic in
    let silo = c.into_silo-silo.result in
    all_answered logic silo.setup c.args.lanes.now silo.journal silo.whole silo.failures.at_opening silo.failures.now (map_list (λ v. v.items) c.in_ok-answers.answers.items) c.in_ok-answers.ensures.served (lawful_readers logic g.met.L.GrainLogic.lawful)
