use Rattle.std.proofs.Common.{rules, ◌≡◌, ◌∙◌, refl, string_bytes, subst, sym, true}
use Rattle.line_text.specs.LineTexts.{ended}
use Rattle.line_text.specs.Text.{refusal_line}
use Rattle.line_parser.specs.declared.line.Line.{Line}
use Rattle.line_parser.specs.declared.line.Line.TheVariants as line
use Rattle.line_answer.specs.Runs.{AnswersLineBy}
use Rattle.line_answer.proofs.Asked.{nothing_asked}
use Rattle.line_answer.proofs.lines.answer_line.Goals as goal

pub returns-in-Nothing-clause-ok : goal.returns-in-Nothing-clause-ok
returns-in-Nothing-clause-ok g c =
    let logic = g.L.GrainLogic.logic in
    let old = c.args.silo.now.history in
    let text = string_bytes c.clear.new.self in
    subst (λ (said : Line). AnswersLineBy logic c.args.most old said true old text) (sym c.in-Nothing.is ∙ c.in_ok-read_line.ensures)
    (nothing_asked logic c.args.most old line.Nothing text refl c.clear.ensures.bytes (c.journal.ensures.idle c.requires))

pub returns-in_ok-refuse-in-Refusal-clause-ok : goal.returns-in_ok-refuse-in-Refusal-clause-ok
returns-in_ok-refuse-in-Refusal-clause-ok g c =
    let logic = g.L.GrainLogic.logic in
    let old = c.args.silo.now.history in
    let text = string_bytes c.refuse.new.text in
    let is : text ≡ ended (refusal_line c.in-Refusal.refusal) = search rules in
    subst (λ (said : Line). AnswersLineBy logic c.args.most old said true old text) (sym c.in-Refusal.is ∙ c.in_ok-read_line.ensures)
    (nothing_asked logic c.args.most old (line.Refusal c.in-Refusal.refusal) text refl is (c.journal.ensures.idle c.requires))
