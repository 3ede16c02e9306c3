use Rattle.std.proofs.Common.{Some, ap, sym, ◌∙◌}
use Rattle.std.specs.FinMap as finite
use Rattle.request_receipts.specs.Receipts.{Receipts, last_of}
use Rattle.request_receipts.proofs.Tables.{get-by_bytes}
use Rattle.request_receipts.proofs.receipts.TenantReceipts.last.Goals as goal

pub returns-in-Some-clause-last : goal.returns-in-Some-clause-last
returns-in-Some-clause-last c =
    let caller = c.args.caller.now in
    ap Some c.last.ensures.last
    ∙ ap last_of (c.in-Some.ensures.value ∙ sym (get-by_bytes c.self.inside.callers caller) ∙ ap (λ (r : Receipts). finite.get r.callers caller) c.self.view_is)

pub returns-in-None-clause-last : goal.returns-in-None-clause-last
returns-in-None-clause-last c =
    let caller = c.args.caller.now in
    ap last_of (c.in-None.ensures.value ∙ sym (get-by_bytes c.self.inside.callers caller) ∙ ap (λ (r : Receipts). finite.get r.callers caller) c.self.view_is)
