use Rattle.std.proofs.Common.{None, ap, sym, ◌∙◌}
use Rattle.std.specs.FinMap as map
use Rattle.turn_mailbox.specs.inside.Beside.{with_one}
use Rattle.turn_mailbox.proofs.Rule.{Turns}
use Rattle.turn_mailbox.proofs.Beside.{shown, get-one, get-beside, get-others, one-removed, beside-updated, other-removed}
use Rattle.turn_mailbox.proofs.turns.Turns.remove.Goals as goal

pub returns-then-is_one-clause-found : goal.returns-then-is_one-clause-found
returns-then-is_one-clause-found c =
    let number = c.args.number in
    c.take.ensures.value ∙ get-one c.self.inside.one (shown c.self.inside.others) number (sym c.is_one.ensures ∙ c.if-is_one.true) ∙ ap (λ (m : Turns). map.get m number) c.self.view_is

pub returns-then-is_one-clause-removed : goal.returns-then-is_one-clause-removed
returns-then-is_one-clause-removed c =
    let number = c.args.number in
    let others = shown c.self.inside.others in
    ap (λ one. with_one one others) c.take.ensures.after ∙ one-removed c.self.inside.one others number c.self.invariant (sym c.is_one.ensures ∙ c.if-is_one.true)
    ∙ ap (λ (m : Turns). map.remove m number) c.self.view_is

pub invariant_of-self-2 : goal.invariant_of-self-2
invariant_of-self-2 c = beside-updated c.self.inside.others c.remove.new.self c.args.number None c.remove.ensures.updates c.self.inside.one c.self.invariant (sym c.is_one.ensures ∙ c.if-is_one.false)

pub returns-clause-found : goal.returns-clause-found
returns-clause-found c =
    let number = c.args.number in
    let others = c.self.inside.others in
    c.remove.ensures.value ∙ sym (get-others others number) ∙ get-beside c.self.inside.one (shown others) number (sym c.is_one.ensures ∙ c.if-is_one.false) ∙ ap (λ (m : Turns). map.get m number) c.self.view_is

pub returns-clause-removed : goal.returns-clause-removed
returns-clause-removed c =
    let number = c.args.number in
    other-removed c.self.inside.one c.self.inside.others c.remove.new.self number c.remove.ensures.updates (sym c.is_one.ensures ∙ c.if-is_one.false) ∙ ap (λ (m : Turns). map.remove m number) c.self.view_is
