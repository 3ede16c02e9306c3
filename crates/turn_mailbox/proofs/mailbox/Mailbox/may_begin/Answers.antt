use Rattle.std.proofs.Common.{true, false, refl, ap, ◌∙◌}
use Rattle.turn_mailbox.specs.Contents.{may_begin}
use Rattle.turn_mailbox.proofs.Rule.{may_open-one, may_open-none, front_of}
use Rattle.turn_mailbox.proofs.mailbox.Mailbox.may_begin.Goals as goal

pub returns-then-front : goal.returns-then-front
returns-then-front c =
    let inside = c.self.inside in
    let first = c.in-Some.front.now in
    let turn = c.in-Some-some.ensures in
    let same = front_of inside.turns inside.waiting.items first (rw (← inside.waiting.ok.0) (c.in-Some.ensures.variant.0 refl)) c.in-Some.ensures.lookup ∙ ap may_begin c.self.view_is in
    may_open-one inside.turns c.self.invariant.rule turn.0 c.in-Some-some.turn.now turn.1 first true c.if-front.true ∙ same

pub returns-else-front : goal.returns-else-front
returns-else-front c =
    let inside = c.self.inside in
    let first = c.in-Some.front.now in
    let turn = c.in-Some-some.ensures in
    let same = front_of inside.turns inside.waiting.items first (rw (← inside.waiting.ok.0) (c.in-Some.ensures.variant.0 refl)) c.in-Some.ensures.lookup ∙ ap may_begin c.self.view_is in
    c.if-front.false ∙ may_open-one inside.turns c.self.invariant.rule turn.0 c.in-Some-some.turn.now turn.1 first false c.if-front.false ∙ same

pub returns-in-None : goal.returns-in-None
returns-in-None c =
    let inside = c.self.inside in
    let first = c.in-Some.front.now in
    let same = front_of inside.turns inside.waiting.items first (rw (← inside.waiting.ok.0) (c.in-Some.ensures.variant.0 refl)) c.in-Some.ensures.lookup ∙ ap may_begin c.self.view_is in
    may_open-none inside.turns c.in-None.ensures first first.reading refl ∙ same
