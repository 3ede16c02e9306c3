use Rattle.std.proofs.Common.{ap, sym, length, ◌∙◌}
use Rattle.request_receipts.specs.Receipts.{Caller, bytes_in, bytes_of_all, count_of_all}
use Rattle.request_receipts.proofs.Tables.{by_bytes-none, total-empty}
use Rattle.request_receipts.proofs.receipts.TenantReceipts.new.Goals as goal

pub invariant_of-result : goal.invariant_of-result
invariant_of-result c =
    let none = by_bytes-none c.new.result c.new.ensures.empty in
    record {
      few = c.requires;
      counted = sym (ap count_of_all none ∙ total-empty (λ (x : Caller). length x.receipts));
      weighed = sym (ap bytes_of_all none ∙ total-empty (λ (x : Caller). bytes_in x.receipts));
    }
