use Rattle.std.proofs.Common.{◌≡◌, ℕ, ◌+◌, ◌∷◌, [], ◌++◌, IfNone, ap, sym, ◌∙◌, subst, rules}
use Rattle.tenant_accounts.specs.Kept.{Account}
use Rattle.tenant_accounts.specs.declared.account.Sent.{Sent}
use Rattle.tenant_accounts.specs.Sends.{message_bytes, send_of, sent_bytes}
use Rattle.tenant_accounts.specs.inside.Undelivered.{IsIndexed, TakesLast, numbers_at}
use Rattle.tenant_accounts.proofs.Queues.{last_gone}
use Rattle.tenant_accounts.proofs.SentBytes.{bytes_more}
use Rattle.tenant_accounts.proofs.Takes.{shown, shown_last, insert_last, same_indexed, last_indexed}
use Rattle.tenant_accounts.proofs.account.Account.add.Goals as goal

pub invariant_of-self : goal.invariant_of-self
invariant_of-self c =
    let inside = c.self.inside in
    (c.self.invariant.0, same_indexed inside.sends.entries inside.index inside.next c.self.invariant.1 c.add_last.new.index c.in_err-add_last.ensures.unchanged, c.self.invariant.2)

pub invariant_of-self-in-Ok : goal.invariant_of-self-in-Ok
invariant_of-self-in-Ok c =
    let inside = c.self.inside in
    let es = inside.sends.entries in
    let index = c.add_last.new.index in
    let more : c.in-Some.next ≡ inside.next + 1 = search rules in
    let entries = c.in-Ok.ensures.entries ∙ insert_last 0 inside.next es c.args.sent c.self.invariant.1.rise in
    let added = last_indexed es inside.index inside.next c.self.invariant.1 index c.args.sent c.in_ok-add_last.ensures.done in
    let bytes : c.in-Some-checked_add.bytes ≡ inside.bytes + message_bytes (send_of c.args.sent) = search rules in
    let counted = bytes_more es inside.bytes c.self.invariant.2 (inside.next, c.args.sent) c.in-Some-checked_add.bytes bytes in (
      c.self.invariant.0,
      subst (λ next. IsIndexed c.insert.new.self.entries index next) (sym more) (subst (λ es. IsIndexed es index (inside.next + 1)) (sym entries) added),
      counted ∙ ap (λ es. sent_bytes (shown es)) (sym entries),
    )

pub returns-in-Ok-clause-done : goal.returns-in-Ok-clause-done
returns-in-Ok-clause-done c =
    let inside = c.self.inside in
    let es = inside.sends.entries in
    let entries = c.in-Ok.ensures.entries ∙ insert_last 0 inside.next es c.args.sent c.self.invariant.1.rise in
    let sends = ap shown entries ∙ shown_last es (inside.next, c.args.sent) in
    (λ i. record { limits = inside.limits; count = inside.count; sends = sends i }) ∙ ap (λ (a : Account). record a { sends = a.sends ++ send_of c.args.sent ∷ [] }) c.self.view_is

pub invariant_of-self-in-Err : goal.invariant_of-self-in-Err
invariant_of-self-in-Err c =
    let inside = c.self.inside in
    let index = c.add_last.new.index in
    let new = c.take_last.new.index in
    let back : c.in-Err.refused.value ≡ (inside.next, c.args.sent) = c.in-Err.ensures.value_returned in
    let takes = subst (λ (p : ℕ × Sent). TakesLast index p.1.source c.take_last.result new) back c.take_last.ensures.rest in
    let none = subst (λ (p : ℕ × Sent). IfNone c.take_last.result (numbers_at index p.1.source ≡ [])) back c.take_last.ensures.none in
    let same = last_gone index new c.args.sent.source c.take_last.result inside.next (numbers_at inside.index) takes none c.in_ok-add_last.ensures.done in (
      c.self.invariant.0,
      subst (λ es. IsIndexed es new inside.next) (sym c.in-Err.ensures.err) (same_indexed inside.sends.entries inside.index inside.next c.self.invariant.1 new same),
      c.self.invariant.2 ∙ ap (λ es. sent_bytes (shown es)) (sym c.in-Err.ensures.err),
    )
