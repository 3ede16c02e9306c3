use Rattle.std.proofs.Common.{ap, sym, refl, length, ◌∙◌}
use Rattle.request_receipts.specs.Receipts.{Caller, bytes_in, without_seen}
use Rattle.request_receipts.specs.inside.Tables.{by_bytes}
use Rattle.request_receipts.proofs.Tables.{get-by_bytes, less, now_without}
use Rattle.request_receipts.proofs.receipts.drop_seen.Goals as goal

pub returns-in_default-clause-left : goal.returns-in_default-clause-left
returns-in_default-clause-left c =
    let m = c.args.callers.now in
    ap by_bytes c.get_mut.follows.holds-at-none
    ∙ ap (λ o. without_seen (by_bytes m) c.args.caller.now o c.args.number) (c.in_default.ensures.value ∙ sym (get-by_bytes m c.args.caller.now))

pub returns-clause-left : goal.returns-clause-left
returns-clause-left c =
    let left = c.drop_seen.new.self in
    let writes = (c.get_mut.follows.holds left).3 (rw (sym c.in-Some.ensures.value) refl) in
    now_without c.args.callers.now (c.get_mut.follows.lender left) c.args.caller.now c.in-Some.record.now left (sym c.in-Some.ensures.value) writes c.args.number c.drop_seen.ensures.left

pub returns-clause-count : goal.returns-clause-count
returns-clause-count c =
    let left = c.drop_seen.new.self in
    let writes = (c.get_mut.follows.holds left).3 (rw (sym c.in-Some.ensures.value) refl) in
    less c.args.callers.now (c.get_mut.follows.lender left) c.args.caller.now c.in-Some.record.now left (sym c.in-Some.ensures.value) writes (λ (x : Caller). length x.receipts) c.drop_seen.result.count c.drop_seen.ensures.count

pub returns-clause-bytes : goal.returns-clause-bytes
returns-clause-bytes c =
    let left = c.drop_seen.new.self in
    let writes = (c.get_mut.follows.holds left).3 (rw (sym c.in-Some.ensures.value) refl) in
    less c.args.callers.now (c.get_mut.follows.lender left) c.args.caller.now c.in-Some.record.now left (sym c.in-Some.ensures.value) writes (λ (x : Caller). bytes_in x.receipts) c.drop_seen.result.bytes c.drop_seen.ensures.bytes
