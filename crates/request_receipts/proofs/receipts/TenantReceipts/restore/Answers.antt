use Rattle.std.proofs.Common.{is_some, ◌+◌, ap, sym, ◌∙◌}
use Rattle.std.specs.Prelude.{string_bytes}
use Rattle.std.specs.FinMap as finite
use Rattle.request_receipts.specs.Receipts.{Receipts, last_of}
use Rattle.request_receipts.specs.inside.Tables.{by_bytes}
use Rattle.request_receipts.proofs.Counts.{counted_same, none_known, one_caller_more}
use Rattle.request_receipts.proofs.receipts.TenantReceipts.restore.Goals as goal

pub invariant_of-self-2 : goal.invariant_of-self-2
invariant_of-self-2 c =
    let inside = c.self.inside in
    let who = string_bytes c.args.caller in
    let found = c.in-Some.«record» in
    let none = none_known (finite.get (by_bytes inside.callers) who) (
    ap (λ (r : Receipts). is_some (last_of (finite.get r.callers who))) c.self.view_is
    ∙ ap (λ name. is_some (last_of (finite.get c.args.self.now.callers name))) (sym c.as_str.ensures.value)
    ∙ ap is_some (sym c.last.ensures.last)
    ∙ sym c.is_some.ensures
    ∙ c.if-is_some.false
    ) in
    counted_same inside.most (finite.insert (by_bytes inside.callers) who found) (by_bytes c.add_in.new.callers) _ _ _ _
    c.in_ok-add_in.ensures.added
    (c.in-Some-sum_of.ensures ∙ ap (λ n. inside.count + n) c.count.ensures)
    (c.in-Some-sum_of-2.ensures ∙ ap (λ n. inside.bytes + n) c.bytes.ensures)
    (one_caller_more (by_bytes inside.callers) who found none inside.most inside.count inside.bytes c.self.invariant)
