use Rattle.std.proofs.Common.{◌==◌, Some, ap, sym, ◌∙◌}
use Rattle.std.specs.FinMap as map
use Rattle.turn_mailbox.proofs.Rule.{Turns}
use Rattle.turn_mailbox.proofs.Beside.{shown, one-again, beside-first, one-first, beside-updated, other-opened}
use Rattle.turn_mailbox.proofs.turns.Turns.insert.Goals as goal

pub returns-then-is_one-clause-opened : goal.returns-then-is_one-clause-opened
returns-then-is_one-clause-opened c =
    let request = c.args.request in
    one-again c.self.inside.one (shown c.self.inside.others) request.number request (sym c.is_one.ensures ∙ c.if-is_one.true) ∙ ap (λ (m : Turns). map.insert m request.number request) c.self.view_is

pub invariant_of-self-then-is_empty : goal.invariant_of-self-then-is_empty
invariant_of-self-then-is_empty c =
    beside-first c.self.inside.one (shown c.self.inside.others) c.args.request.number (ap (λ (m : Turns). map.len m == 0) c.self.view_is ∙ sym c.is_empty.ensures ∙ c.if-is_empty.true)

pub returns-then-is_empty-clause-opened : goal.returns-then-is_empty-clause-opened
returns-then-is_empty-clause-opened c =
    let request = c.args.request in
    ap (λ (m : Turns). map.insert m request.number request)
    (one-first c.self.inside.one (shown c.self.inside.others) (ap (λ (m : Turns). map.len m == 0) c.self.view_is ∙ sym c.is_empty.ensures ∙ c.if-is_empty.true) ∙ c.self.view_is)

pub invariant_of-self-in-Ok : goal.invariant_of-self-in-Ok
invariant_of-self-in-Ok c =
    let request = c.args.request in
    beside-updated c.self.inside.others c.insert.new.self request.number (Some request) c.in-Ok.ensures.updates c.self.inside.one c.self.invariant (sym c.is_one.ensures ∙ c.if-is_one.false)

pub returns-in-Ok-clause-opened : goal.returns-in-Ok-clause-opened
returns-in-Ok-clause-opened c =
    let request = c.args.request in
    other-opened c.self.inside.one c.self.inside.others c.insert.new.self request.number request c.in-Ok.ensures.updates (sym c.is_one.ensures ∙ c.if-is_one.false)
    ∙ ap (λ (m : Turns). map.insert m request.number request) c.self.view_is
