use Rattle.std.proofs.Common.{◌≡◌, ◌-◌, ap, sym, ◌∙◌, subst, arith}
use Rattle.tenant_accounts.specs.Kept.{Account}
use Rattle.tenant_accounts.specs.Sends.{sent_bytes}
use Rattle.tenant_accounts.specs.inside.Deliveries.{without_first}
use Rattle.tenant_accounts.specs.inside.Undelivered.{IsIndexed}
use Rattle.tenant_accounts.proofs.SentBytes.{bytes_kept, bytes_without}
use Rattle.tenant_accounts.proofs.Takes.{shown, first_none, first_out, rest_indexed}
use Rattle.tenant_accounts.proofs.account.Account.take_first.Goals as goal

pub overflow_sub-self : goal.overflow_sub-self
overflow_sub-self c =
    let inside = c.self.inside in
    let whole = bytes_without inside.sends.entries inside.bytes c.self.invariant.2 _ c.in-Some-remove.sent (sym c.remove.ensures.value ∙ c.in-Some-remove.is) in
    omega (arith, whole, c.message_bytes.ensures)

pub invariant_of-self : goal.invariant_of-self
invariant_of-self c =
    let inside = c.self.inside in
    let left = rest_indexed inside.sends.entries inside.index inside.next c.self.invariant.1 c.take_first.new.index c.args.grain.now c.in-Some.number c.in-Some.ensures.rest in
    let whole = bytes_without inside.sends.entries inside.bytes c.self.invariant.2 _ c.in-Some-remove.sent (sym c.remove.ensures.value ∙ c.in-Some-remove.is) in
    let rest = ap (λ es. sent_bytes (shown es)) c.remove.ensures.entries in
    let fewer : inside.bytes - c.message_bytes.result ≡ sent_bytes (shown c.remove.new.self.entries) = omega (arith, whole, rest, c.message_bytes.ensures) in
    (c.self.invariant.0, subst (λ es. IsIndexed es c.take_first.new.index inside.next) (sym c.remove.ensures.entries) left, fewer)

pub invariant_of-self-in_default-remove : goal.invariant_of-self-in_default-remove
invariant_of-self-in_default-remove c =
    let inside = c.self.inside in
    let left = rest_indexed inside.sends.entries inside.index inside.next c.self.invariant.1 c.take_first.new.index c.args.grain.now c.in-Some.number c.in-Some.ensures.rest in
    let kept = bytes_kept inside.sends.entries inside.bytes c.self.invariant.2 _ (sym c.remove.ensures.value ∙ c.in_default-remove.is) in
    let rest = ap (λ es. sent_bytes (shown es)) c.remove.ensures.entries in
    (c.self.invariant.0, subst (λ es. IsIndexed es c.take_first.new.index inside.next) (sym c.remove.ensures.entries) left, kept ∙ sym rest)

pub returns-in-Some-remove : goal.returns-in-Some-remove
returns-in-Some-remove c =
    let inside = c.self.inside in
    let first = first_out inside.sends.entries inside.index inside.next c.self.invariant.1 c.take_first.new.index c.args.grain.now c.in-Some.number c.in-Some.ensures.rest in
    let sends = ap shown c.remove.ensures.entries ∙ sym first.left in
    (λ i. record { limits = inside.limits; count = inside.count; sends = sends i }) ∙ ap (λ (a : Account). record a { sends = without_first c.args.grain.now a.sends }) c.self.view_is

pub returns-in_default-remove : goal.returns-in_default-remove
returns-in_default-remove c =
    let inside = c.self.inside in
    let first = first_out inside.sends.entries inside.index inside.next c.self.invariant.1 c.take_first.new.index c.args.grain.now c.in-Some.number c.in-Some.ensures.rest in
    let sends = ap shown c.remove.ensures.entries ∙ sym first.left in
    (λ i. record { limits = inside.limits; count = inside.count; sends = sends i }) ∙ ap (λ (a : Account). record a { sends = without_first c.args.grain.now a.sends }) c.self.view_is

pub returns-in_default : goal.returns-in_default
returns-in_default c =
    let inside = c.self.inside in
    let none = sym (c.self.invariant.1.numbers c.args.grain.now) ∙ c.in_default.ensures.none in
    let sends = sym (first_none c.args.grain.now inside.sends.entries none).1 in
    (λ i. record { limits = inside.limits; count = inside.count; sends = sends i }) ∙ ap (λ (a : Account). record a { sends = without_first c.args.grain.now a.sends }) c.self.view_is
