use Rattle.std.proofs.Common.{ap, sym, ◌∙◌}
use Rattle.std.specs.FinMap as map
use Rattle.turn_mailbox.specs.inside.Beside.{with_one}
use Rattle.turn_mailbox.proofs.Rule.{Turns}
use Rattle.turn_mailbox.proofs.Beside.{shown, get-some, get-others}
use Rattle.turn_mailbox.proofs.turns.Turns.some.Goals as goal

pub returns-in-Some : goal.returns-in-Some
returns-in-Some c =
    let turn = c.in-Some.turn in
    (turn.number, ap (λ (m : Turns). map.get m turn.number) (sym c.self.view_is) ∙ get-some c.self.inside.one (shown c.self.inside.others) turn c.in-Some.is)

pub returns-in_ok-turn-in-None : goal.returns-in_ok-turn-in-None
returns-in_ok-turn-in-None c =
    let number = c.in_ok-turn-in-None.field-0-0.now in
    let others = c.self.inside.others in
    (number, ap (λ (m : Turns). map.get m number) (sym c.self.view_is) ∙ ap (λ one. map.get (with_one one (shown others)) number) c.in-None.is ∙ get-others others number ∙ c.in_ok-turn-in-None.ensures.value)
