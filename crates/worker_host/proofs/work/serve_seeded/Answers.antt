use Rattle.std.specs.Prelude.{map as map_list}
use Rattle.std.proofs.lemmas.Result.{IfOk-weaker}
use Rattle.worker_host.proofs.Served.{both_of, setup_is, failures_were, parts_are_runs}
use Rattle.worker_host.proofs.work.serve_seeded.Goals as goal

pub returns-clause-setup : goal.returns-clause-setup
returns-clause-setup g c =
    let a = c.args.setup in
    IfOk-weaker c.settle.result _ _
    (λ report is. setup_is c.in_ok-opened.opened report.silo a.tenants a.age a.ages (g.S.GrainStorage.rows a.storage) (g.S.GrainStorage.failed a.storage) is.0 c.in_ok-opened.ensures is.1)
    (both_of c.settle.result _ _ c.settle.ensures.opened c.settle.ensures.new)

pub returns-clause-failures : goal.returns-clause-failures
returns-clause-failures g c =
    let a = c.args.setup in
    IfOk-weaker c.settle.result _ _ (λ report so. failures_were c.in_ok-opened.opened report.silo a.tenants a.age a.ages (g.S.GrainStorage.rows a.storage) (g.S.GrainStorage.failed a.storage) so c.in_ok-opened.ensures) c.settle.ensures.opened

pub returns-clause-parts : goal.returns-clause-parts
returns-clause-parts g c =
    let logic = g.L.GrainLogic.logic in
    IfOk-weaker c.settle.result _ _
    (λ report served. parts_are_runs logic report.silo.setup c.args.lanes.now report.silo.journal report.silo.whole report.silo.failures.at_opening report.silo.failures.now (map_list (λ v. v.items) report.answers.items) served)
    c.settle.ensures.served
