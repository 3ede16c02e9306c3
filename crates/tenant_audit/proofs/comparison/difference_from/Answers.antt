use Rattle.std.proofs.Common.{◌≡◌, None, rules}
use Rattle.std.specs.Option.{option_map}
use Rattle.std.proofs.lemmas.Result.{IfOk-weaker}
use Rattle.tenant_audit.specs.ReportView.{difference_of}
use Rattle.tenant_audit.proofs.FirstDifference.{all_concern, apart_differs}
use Rattle.tenant_audit.proofs.comparison.difference_from.Goals as goal

pub first_not_done-requires : goal.first_not_done-requires
first_not_done-requires g c = all_concern c.args.journal.now c.args.tenant.now c.args.machine.now c.requires c.steps_for.result c.steps_for.ensures

pub returns : goal.returns
returns g c =
    let none : c.in_ok-step.field-0 ≡ None = search rules in
    IfOk-weaker c.record_apart.result _ _
    (λ difference. apart_differs g.L.GrainLogic.logic c.args.journal.now c.args.tenant.now c.args.machine.now c.first_not_done.new.machine c.requires c.steps_for.result c.steps_for.ensures c.in_ok-step.field-0 none c.in_ok-step.ensures (option_map difference_of difference))
    c.record_apart.ensures
