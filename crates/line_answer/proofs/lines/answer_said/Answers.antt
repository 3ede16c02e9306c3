use Rattle.std.proofs.Common.{rules, ◌≡◌, ◌∙◌, ◌++◌, length, drop, string_bytes, ap, sym}
use Rattle.line_text.specs.LineTexts.{ended, texts_of}
use Rattle.line_text.specs.Text.{not_now_line, refusal_line}
use Rattle.line_parser.specs.declared.line.LineRefusal.TheVariants.{NotARequest}
use Rattle.line_answer.proofs.Asked.{asked_line, not_asked}
use Rattle.line_answer.proofs.lines.answer_said.Goals as goal

pub returns-then-not-is_asked-clause-ok : goal.returns-then-not-is_asked-clause-ok
returns-then-not-is_asked-clause-ok g c =
    let is : string_bytes c.refuse.new.text ≡ ended (refusal_line NotARequest) = search rules in
    not_asked g.L.GrainLogic.logic c.args.most c.args.silo.now.history c.args.step (string_bytes c.refuse.new.text)
    (sym c.is_asked.ensures ∙ c.if-not-is_asked.true) is (c.journal.ensures.idle c.requires)

pub returns-then-taken-clause-ok : goal.returns-then-taken-clause-ok
returns-then-taken-clause-ok g c =
    let old = c.args.silo.now.history in
    let new = c.answer_in.new.self.history in
    let before = c.replies-before.result.now in
    let after = c.replies.result.now in
    let is : string_bytes c.push_new.new.text ≡ texts_of (drop (length old.whole.replies) new.whole.replies)
    = c.in_ok-push_new.ensures
    ∙ ap (λ front. front ++ texts_of (drop (length before) after)) c.clear.ensures.bytes
    ∙ (λ i. texts_of (drop (length (c.replies-before.ensures i)) (c.replies.ensures i))) in
    asked_line g.L.GrainLogic.logic c.args.most old new c.args.step _ _ (string_bytes c.push_new.new.text)
    (sym c.is_asked.ensures ∙ c.if-not-is_asked.false) (rw c.if-taken.true at c.in_ok-taken.ensures.answered) is c.in_ok-taken.ensures.idle

pub returns-clause-ok : goal.returns-clause-ok
returns-clause-ok g c =
    let old = c.args.silo.now.history in
    let new = c.answer_in.new.self.history in
    let is : string_bytes c.push_str.new.self ≡ ended not_now_line = search rules in
    asked_line g.L.GrainLogic.logic c.args.most old new c.args.step _ _ (string_bytes c.push_str.new.self)
    (sym c.is_asked.ensures ∙ c.if-not-is_asked.false) (rw c.if-taken.false at c.in_ok-taken.ensures.answered) is c.in_ok-taken.ensures.idle
