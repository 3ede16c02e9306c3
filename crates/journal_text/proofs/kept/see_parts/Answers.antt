use Rattle.journal_text.proofs.Common.{arith}
use Rattle.journal_text.proofs.KeptRules.{rules_kept}
use Rattle.journal_text.proofs.kept.see_parts.Goals as goal

pub returns : goal.returns
returns c =
    let parts = c.args.parts in
    rules_kept parts.kinds parts.age parts.ages.now parts.tenants.now parts.steps.now parts.replies.now parts.rows.now c.see_kinds.ensures c.see_tenants.ensures c.see_steps.ensures c.see_replies.ensures c.see_rows.ensures (omega arith)
