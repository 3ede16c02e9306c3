use Rattle.std.proofs.Common.{ap, sym, ◌∙◌}
use Rattle.std.specs.FinMap as finite
use Rattle.request_receipts.specs.Parts.{all_named}
use Rattle.request_receipts.specs.Receipts.{Receipts}
use Rattle.request_receipts.proofs.Tables.{entries-by_bytes}
use Rattle.request_receipts.proofs.receipts.TenantReceipts.callers.Goals as goal

pub returns : goal.returns
returns c =
    ap all_named c.iter.ensures.rest
    ∙ sym (entries-by_bytes c.self.inside.callers c.iter.ensures.ordered)
    ∙ ap (λ (r : Receipts). finite.entries r.callers) c.self.view_is
