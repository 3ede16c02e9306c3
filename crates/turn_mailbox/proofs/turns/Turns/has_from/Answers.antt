use Rattle.std.proofs.Common.{ap, ◌∙◌}
use Rattle.std.specs.List.{list_any}
use Rattle.std.specs.FinMap as map
use Rattle.turn_mailbox.specs.Contents.{is_from}
use Rattle.turn_mailbox.proofs.Rule.{Turns}
use Rattle.turn_mailbox.proofs.Beside.{any-of-others, any-of-one}
use Rattle.turn_mailbox.proofs.turns.Turns.has_from.Goals as goal

pub returns-then-is_from_any : goal.returns-then-is_from_any
returns-then-is_from_any c =
    let client = c.args.client.now in
    any-of-others client c.self.inside.one c.self.inside.others c.self.invariant c.is_from_any.ensures.ordered _ c.is_from_any.ensures.any c.if-is_from_any.true
    ∙ ap (λ (m : Turns). list_any (is_from client) (map.values m)) c.self.view_is

pub returns-else-is_from_any : goal.returns-else-is_from_any
returns-else-is_from_any c =
    let client = c.args.client.now in
    c.is_from_one.ensures
    ∙ any-of-one client c.self.inside.one c.self.inside.others c.self.invariant c.is_from_any.ensures.ordered _ c.is_from_any.ensures.any c.if-is_from_any.false
    ∙ ap (λ (m : Turns). list_any (is_from client) (map.values m)) c.self.view_is
