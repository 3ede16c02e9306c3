use Rattle.std.proofs.Common.{ap, sym, ◌∙◌}
use Rattle.std.specs.Prelude.{nat_le}
use Rattle.std.specs.FinMap as finite
use Rattle.request_receipts.specs.Receipts.{Receipts}
use Rattle.request_receipts.proofs.Tables.{len-by_bytes}
use Rattle.request_receipts.proofs.receipts.TenantReceipts.has_most_callers.Goals as goal

pub returns : goal.returns
returns c =
    (λ i. nat_le c.self.inside.most ((c.len.ensures.len ∙ sym (len-by_bytes c.self.inside.callers c.len.ensures.ordered)) i))
    ∙ ap (λ (r : Receipts). nat_le r.most (finite.len r.callers)) c.self.view_is
