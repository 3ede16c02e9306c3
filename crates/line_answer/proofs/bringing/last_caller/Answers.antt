use Rattle.std.proofs.Common.{◌≡◌, ◌+◌, length, Some, sym, ap, ◌∙◌, arith}
use Rattle.std.specs.Prelude.{slice_get}
use Rattle.std.proofs.lemmas.Grind.{common_steps}
use Rattle.std.proofs.lemmas.Option.{same_Some, gets}
use Rattle.silo_event.specs.Asker.{asker_of}
use Rattle.line_answer.proofs.Trying.{third_last}
use Rattle.line_answer.proofs.bringing.last_caller.Goals as goal

pub returns : goal.returns
returns g c = λ call ends.
    let journal = c.args.silo.now.journal in
    let found : slice_get journal c.in-Some.place ≡ Some c.in-Some-get.call.now = grind (arith, common_steps, gets, c.in-Some-get.ensures.lookup, c.journal-steps.ensures.steps) in
    let place : c.in-Some.place + 3 ≡ length journal = grind (arith, common_steps, c.in-Some.ensures, c.journal-steps.ensures.steps) in
    c.asker.ensures ∙ ap asker_of (same_Some _ call (sym found ∙ third_last journal call ends c.in-Some.place place))
