use Rattle.std.proofs.Common.{subst, sym, ◌+◌, length}
use Rattle.request_receipts.specs.inside.Tables.{IsCounted, by_bytes}
use Rattle.request_receipts.proofs.Counts.{one_more}
use Rattle.request_receipts.proofs.receipts.TenantReceipts.keep.Goals as goal

pub invariant_of-self-2 : goal.invariant_of-self-2
invariant_of-self-2 c =
    subst (λ callers. IsCounted c.self.inside.most callers (c.self.inside.count + 1) (c.self.inside.bytes + length c.args.line.now)) (sym c.in_ok-keep_in.ensures.kept)
    (one_more (by_bytes c.self.inside.callers) c.args.caller.now c.args.number c.args.line.now c.self.inside.most c.self.inside.count c.self.inside.bytes c.self.invariant)
