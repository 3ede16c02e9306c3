use Rattle.std.proofs.Common.{ap, sym, ◌∙◌}
use Rattle.std.specs.FinMap as map
use Rattle.turn_mailbox.proofs.Rule.{Turns}
use Rattle.turn_mailbox.proofs.Beside.{shown, get-one, get-beside, get-others}
use Rattle.turn_mailbox.proofs.turns.Turns.get.Goals as goal

pub returns-then-is_one : goal.returns-then-is_one
returns-then-is_one c =
    let number = c.args.number in
    c.as_ref.ensures.value ∙ get-one c.self.inside.one (shown c.self.inside.others) number (sym c.is_one.ensures ∙ c.if-is_one.true) ∙ ap (λ (m : Turns). map.get m number) c.self.view_is

pub returns : goal.returns
returns c =
    let number = c.args.number in
    let others = c.self.inside.others in
    c.get.ensures.value ∙ sym (get-others others number) ∙ get-beside c.self.inside.one (shown others) number (sym c.is_one.ensures ∙ c.if-is_one.false) ∙ ap (λ (m : Turns). map.get m number) c.self.view_is
