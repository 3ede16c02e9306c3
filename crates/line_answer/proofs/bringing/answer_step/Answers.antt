use Rattle.std.proofs.Common.{true, ap, ◌∙◌, subst}
use Rattle.std.specs.Prelude.{IfOk}
use Rattle.silo_event.specs.declared.step.Step.{Step}
use Rattle.silo_core.specs.AtOnce.{ServesOrNot}
use Rattle.silo_core.specs.History.{History}
use Rattle.answer_model.specs.Answering.{is_asked}
use Rattle.line_answer.specs.Trying.{AnswersBy}
use Rattle.line_answer.proofs.Trying.{answers_client, asked_plain, asked_by, brought_at_once, ends_in}
use Rattle.line_answer.proofs.bringing.answer_step.Goals as goal

pub returns-in_default : goal.returns-in_default
returns-in_default g c =
    let logic = g.L.GrainLogic.logic in
    let old = c.args.silo.now in
    let step = c.args.step in
    let mid = c.serve_at_once.new.self in
    let plain = asked_plain _ c.requires in
    let serves = subst (λ r. ServesOrNot logic old step r mid) c.in_default.is c.serve_at_once.ensures in
    let asked = asked_by logic old mid step plain serves in
    answers_client logic c.args.most old mid c.deliver_behind.new.silo step true true (brought_at_once logic old mid step plain serves) serves.is_call.caller
    c.in_ok-memory.memory asked (c.in_ok-memory.ensures step serves.is_call.caller (ends_in logic old mid step plain serves) asked)

pub answer_by_steps-requires : goal.answer_by_steps-requires
answer_by_steps-requires g c =
    let back = subst (λ r. ServesOrNot g.L.GrainLogic.logic c.args.silo.now c.args.step r c.serve_at_once.new.self) c.in-Some.is c.serve_at_once.ensures in
    ap is_asked back.0 ∙ c.requires

pub returns : goal.returns
returns g c =
    let logic = g.L.GrainLogic.logic in
    let back = subst (λ r. ServesOrNot logic c.args.silo.now c.args.step r c.serve_at_once.new.self) c.in-Some.is c.serve_at_once.ensures in
    subst (λ (t : History × Step). IfOk c.answer_by_steps.result (λ taken. AnswersBy logic c.args.most t.0 t.1 taken.done taken.memory c.answer_by_steps.new.silo))
    (λ i. (back.1 i, back.0 i)) c.answer_by_steps.ensures
