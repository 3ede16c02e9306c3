use Rattle.std.proofs.Common.{◌<◌, ap, sym, refl, subst, ◌∙◌}
use Rattle.std.specs.FinMap as finite
use Rattle.std.specs.Prelude.{string_bytes}
use Rattle.std.proofs.lemmas.Result.{on_ok_weaker, on_err_weaker}
use Rattle.grain_id.proofs.ByGrain.{text_insert-again}
use Rattle.request_receipts.specs.Receipts.{bytes_in, bytes_of_caller, receipts_of, with_receipt}
use Rattle.request_receipts.specs.inside.Tables.{by_bytes}
use Rattle.request_receipts.proofs.Tables.{by_bytes-updated, get-by_bytes}
use Rattle.request_receipts.proofs.receipts.keep_in.Goals as goal

pub keep-requires-clause-room : goal.keep-requires-clause-room
keep-requires-clause-room c =
    subst (λ o. bytes_in (receipts_of o) < bytes_of_caller) (get-by_bytes c.args.callers.now c.args.caller.now ∙ sym c.in-Some.ensures.value) c.requires.room

pub returns-in-Some-clause-kept : goal.returns-in-Some-clause-kept
returns-in-Some-clause-kept c =
    let m = c.args.callers.now in
    let caller = c.args.caller.now in
    let left = c.keep.new.self in
    let writes = (c.get_mut.follows.holds left).3 (rw (sym c.in-Some.ensures.value) refl) in
    on_ok_weaker c.keep.result (λ is.
    by_bytes-updated m (c.get_mut.follows.lender left) caller left writes
    ∙ ap (finite.insert (by_bytes m) caller) (is ∙ ap (λ o. with_receipt o c.args.number c.args.line.now) (c.in-Some.ensures.value ∙ sym (get-by_bytes m caller)))) c.keep.ensures.kept

pub returns-in-Some-clause-unchanged : goal.returns-in-Some-clause-unchanged
returns-in-Some-clause-unchanged c =
    let m = c.args.callers.now in
    let caller = c.args.caller.now in
    let left = c.keep.new.self in
    let writes = (c.get_mut.follows.holds left).3 (rw (sym c.in-Some.ensures.value) refl) in
    on_err_weaker c.keep.result (λ same.
    by_bytes-updated m (c.get_mut.follows.lender left) caller left writes
    ∙ ap (finite.insert (by_bytes m) caller) same
    ∙ text_insert-again (by_bytes m) caller c.in-Some.record.now (get-by_bytes m caller ∙ sym c.in-Some.ensures.value)) c.keep.ensures.unchanged

pub returns-clause-kept : goal.returns-clause-kept
returns-clause-kept c =
    let m = c.args.callers.now in
    let caller = c.args.caller.now in
    let value = c.in_ok-record.record in
    by_bytes-updated c.get_mut.follows.lender-at-none c.insert.new.self (string_bytes c.in_ok-from_str.field-0) value c.in_ok-insert.ensures.updates
    ∙ (λ i. finite.insert (by_bytes (c.get_mut.follows.holds-at-none i)) (c.in_ok-from_str.ensures.ok i) (c.in_ok-record.ensures i))
    ∙ ap (λ o. finite.insert (by_bytes m) caller (with_receipt o c.args.number c.args.line.now)) (c.in_default.ensures.value ∙ sym (get-by_bytes m caller))
