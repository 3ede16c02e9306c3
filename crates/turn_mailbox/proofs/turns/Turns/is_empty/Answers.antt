use Rattle.std.proofs.Common.{◌==◌, ap, ◌∙◌}
use Rattle.std.specs.FinMap as map
use Rattle.turn_mailbox.proofs.Rule.{Turns}
use Rattle.turn_mailbox.proofs.Beside.{shown, none-shown, some-shown}
use Rattle.turn_mailbox.proofs.turns.Turns.is_empty.Goals as goal

pub returns-in-Some : goal.returns-in-Some
returns-in-Some c = some-shown c.self.inside.one (shown c.self.inside.others) _ c.in-Some.is _ (ap (λ (m : Turns). map.len m == 0) c.self.view_is)

pub returns-in-None : goal.returns-in-None
returns-in-None c =
    ap (λ n. n == 0) c.len.ensures.len ∙ none-shown c.self.inside.one c.self.inside.others c.len.ensures.ordered c.in-None.is ∙ ap (λ (m : Turns). map.len m == 0) c.self.view_is
