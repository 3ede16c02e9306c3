use Rattle.journal_text.proofs.Common.{map, on_ok_weaker, recorded_of}
use Rattle.journal_text.proofs.Lines.{journal_put}
use Rattle.journal_text.proofs.journal_writer.push_parts.Goals as goal

pub returns : goal.returns
returns c =
    let parts = c.args.parts in
    on_ok_weaker c.push_behind.result (λ closed. journal_put parts.kinds parts.age parts.ages.now parts.tenants.now parts.steps.now (map recorded_of parts.replies.now) parts.rows.now _ _ _ c.in_ok-push_before.ensures c.in_ok-push_replies.ensures closed) c.push_behind.ensures
