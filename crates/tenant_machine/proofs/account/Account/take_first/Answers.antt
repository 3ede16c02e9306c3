use Rattle.silo_model.proofs.Common.{◌∙◌, Account, ap, sym}
use Rattle.tenant_machine.specs.inside.Sends.{sends_of, without_first, first_place}
use Rattle.tenant_machine.proofs.Firsts.{none_without, some_without}
use Rattle.tenant_machine.proofs.account.Account.take_first.Goals as goal

pub returns-in-Some : goal.returns-in-Some
returns-in-Some c =
    let inside = c.self.inside in
    let grain = c.args.grain.now in
    let place = ap (first_place grain) (sym c.as_slice.ensures.value) ∙ sym c.place_of.ensures.place ∙ c.in-Some.is in
    let left = ap sends_of c.remove.ensures.items ∙ some_without grain inside.sends.items c.in-Some.place place in
    (λ i. record { limits = inside.limits; count = inside.count; sends = left i }) ∙ ap (λ (a : Account). record a { sends = without_first grain a.sends }) c.self.view_is

pub returns-in_default : goal.returns-in_default
returns-in_default c =
    let inside = c.self.inside in
    let grain = c.args.grain.now in
    let none = ap (first_place grain) (sym c.as_slice.ensures.value) ∙ sym c.place_of.ensures.place ∙ c.in_default.is in
    sym c.self.view_is ∙ (λ i. record { limits = inside.limits; count = inside.count; sends = none_without grain inside.sends.items none i })
    ∙ ap (λ (a : Account). record a { sends = without_first grain a.sends }) c.self.view_is
