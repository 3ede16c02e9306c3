use Rattle.std.proofs.Common.{◌≡◌, drop, ap, rules, arith}
use Rattle.journal_text.specs.RecordedReply.{recorded_of}
use Rattle.audit_model.specs.Parts.{all_recorded}
use Rattle.tenant_audit.specs.inside.Parted.{pointees}
use Rattle.tenant_audit.proofs.Walked.{one_walked, next_is}
use Rattle.tenant_audit.proofs.replies.first_reply_apart.Goals as goal

pub recorded-preserved : goal.recorded-preserved
recorded-preserved c =
    let told = c.told-item.result in
    let i = c.recorded.told-index in
    let reply = c.in-Some.reply.now in
    let same : told.now ≡ recorded_of reply = search rules in
    record {
      walked = one_walked (pointees c.args.recorded.now) (all_recorded c.args.replies.now) (pointees (drop i c.args.recorded.now)) (all_recorded c.recorded.given.now) c.recorded.invariant.walked told.now (recorded_of reply) _ _
          (next_is c.args.recorded.now i told c.recorded-test.true c.told-item.is)
          (ap all_recorded c.in-Some.ensures.cases.0)
          same;
      counted = omega arith;
    }
