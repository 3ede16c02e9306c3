use Rattle.std.proofs.Common.{◌≡◌, ◌==◌, true, false, length, sym, ◌∙◌, subst}
use Rattle.line_answer.specs.Trying.{Brings}
use Rattle.line_answer.proofs.Trying.{brought_none, brought_refused, brought}
use Rattle.line_answer.proofs.bringing.bring.Goals as goal

pub returns-in_default : goal.returns-in_default
returns-in_default g c =
    let logic = g.L.GrainLogic.logic in
    let old = c.args.silo.now in
    let mid = c.take.new.silo in
    let done = c.in_ok-done.done in
    subst (λ o. Brings logic old c.args.step o c.args.gives_up done true mid) (sym c.in_default.is)
    (brought_none logic old mid c.args.step c.args.gives_up done c.in_ok-done.ensures.taken)

pub returns-then-is_same : goal.returns-then-is_same
returns-then-is_same g c =
    let logic = g.L.GrainLogic.logic in
    let old = c.args.silo.now in
    let mid = c.take.new.silo in
    let done = c.in_ok-done.done in
    let same : (length mid.whole.replies == length old.whole.replies) ≡ true
    = (λ i. sym c.told-after.ensures i == sym c.told-before.ensures i) ∙ sym c.is_same.ensures ∙ c.if-is_same.true in
    subst (λ o. Brings logic old c.args.step o c.args.gives_up done c.in_ok-memory.memory c.serve.new.silo) (sym c.in-Some.is)
    (brought logic old mid c.args.step c.args.gives_up done c.in_ok-done.ensures.taken c.in-Some.grain c.serve.new.silo c.in_ok-memory.memory same c.in_ok-memory.ensures)

pub returns : goal.returns
returns g c =
    let logic = g.L.GrainLogic.logic in
    let old = c.args.silo.now in
    let mid = c.take.new.silo in
    let done = c.in_ok-done.done in
    let other : (length mid.whole.replies == length old.whole.replies) ≡ false
    = (λ i. sym c.told-after.ensures i == sym c.told-before.ensures i) ∙ sym c.is_same.ensures ∙ c.if-is_same.false in
    subst (λ o. Brings logic old c.args.step o c.args.gives_up done true mid) (sym c.in-Some.is)
    (brought_refused logic old mid c.args.step c.args.gives_up done c.in_ok-done.ensures.taken c.in-Some.grain other)
