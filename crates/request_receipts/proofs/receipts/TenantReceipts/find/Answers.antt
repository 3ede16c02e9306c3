use Rattle.std.proofs.Common.{ap, sym, ◌∙◌}
use Rattle.std.specs.FinMap as finite
use Rattle.request_receipts.specs.Receipts.{Receipts}
use Rattle.request_receipts.specs.Judgements.{judged}
use Rattle.request_receipts.proofs.Tables.{get-by_bytes}
use Rattle.request_receipts.proofs.receipts.TenantReceipts.find.Goals as goal

pub returns : goal.returns
returns c =
    let caller = c.args.caller.now in
    c.judge.ensures
    ∙ ap (λ o. judged c.args.self.now o c.args.number) (c.get.ensures.value ∙ sym (get-by_bytes c.self.inside.callers caller) ∙ ap (λ (r : Receipts). finite.get r.callers caller) c.self.view_is)
