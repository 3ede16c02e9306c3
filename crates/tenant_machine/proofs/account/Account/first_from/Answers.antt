use Rattle.std.proofs.Common.{◌≡◌, ◌<◌, List, length, slice_index_or, IfSome, IsSome, ap, sym, ◌∙◌, subst}
use Rattle.tenant_machine.specs.declared.account.Sent.{Sent}
use Rattle.tenant_machine.specs.inside.Sends.{first_place}
use Rattle.tenant_machine.proofs.Firsts.{none_first, found_first}
use Rattle.tenant_machine.proofs.account.Account.first_from.Goals as goal

pub returns-in_default : goal.returns-in_default
returns-in_default c =
    let grain = c.args.grain.now in
    rw (← c.self.view_is) (none_first grain c.self.inside.sends.items (ap (first_place grain) (sym c.as_slice.ensures.value) ∙ sym c.place_of.ensures.place ∙ c.in_default.is))

pub returns : goal.returns
returns c =
    let grain = c.args.grain.now in
    let n = c.in-Some.place in
    let place = ap (first_place grain) (sym c.as_slice.ensures.value) ∙ sym c.place_of.ensures.place ∙ c.in-Some.is in
    let within = subst (λ (xs : List Sent). n < length xs) c.as_slice.ensures.value c.in-Some.ensures.bound in
    let value = subst (λ (xs : List Sent). IfSome c.get.result (λ x. x.now ≡ slice_index_or xs n x.now)) c.as_slice-2.ensures.value c.get.ensures.lookup.1 in
    let there = subst (λ (xs : List Sent). n < length xs → IsSome c.get.result) c.as_slice-2.ensures.value c.get.ensures.lookup.2 in
    rw (← c.self.view_is) (found_first grain c.self.inside.sends.items n place within c.get.result value there)
