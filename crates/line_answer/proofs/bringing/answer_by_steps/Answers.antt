use Rattle.std.proofs.Common.{Option, false, refl, sym, ◌∙◌, subst}
use Rattle.grain_id.specs.Names.{Grain}
use Rattle.line_answer.specs.Delivering.{HasDelivered}
use Rattle.line_answer.specs.Trying.{AnswersBy, Brings}
use Rattle.line_answer.proofs.Trying.{answers_client, answers_nobody, asked_plain}
use Rattle.line_answer.proofs.bringing.answer_by_steps.Goals as goal

pub bring-requires : goal.bring-requires
bring-requires g c = asked_plain _ c.requires

pub returns-in_default : goal.returns-in_default
returns-in_default g c =
    let logic = g.L.GrainLogic.logic in
    let old = c.args.silo.now in
    let mid = c.bring.new.silo in
    let taken = c.in_ok-taken.taken in
    answers_nobody logic c.args.most old mid mid c.args.step taken.done taken.memory
    (subst (λ (grain : Option Grain). Brings logic old c.args.step grain false taken.done taken.memory mid) c.in_ok-grain.ensures c.in_ok-taken.ensures)
    (sym c.in_ok-asker.ensures ∙ c.in_default.is) c.requires refl

pub returns : goal.returns
returns g c =
    let logic = g.L.GrainLogic.logic in
    let old = c.args.silo.now in
    let mid = c.bring.new.silo in
    let new = c.deliver.new.silo in
    let taken = c.in_ok-taken.taken in
    let memory = c.in_ok-memory.memory in
    subst (λ had. AnswersBy logic c.args.most old c.args.step taken.done had new) (sym c.both.ensures)
    (answers_client logic c.args.most old mid new c.args.step taken.done taken.memory
    (subst (λ (grain : Option Grain). Brings logic old c.args.step grain false taken.done taken.memory mid) c.in_ok-grain.ensures c.in_ok-taken.ensures)
    c.in-Some.caller memory (sym c.in_ok-asker.ensures ∙ c.in-Some.is)
    (subst (λ t. HasDelivered logic c.args.most t mid memory new) c.tenant.ensures c.in_ok-memory.ensures))
