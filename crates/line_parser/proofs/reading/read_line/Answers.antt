use Rattle.std.proofs.Common.{◌≡◌, sym, ap, subst, ◌∙◌}
use Rattle.std.specs.Prelude.{IfOk}
use Rattle.line_parser.specs.Meaning.{meaning_by, meaning_of}
use Rattle.line_parser.proofs.Meaning.{said_of_text}
use Rattle.line_parser.proofs.reading.read_line.Goals as goal

pub returns-in-Some-2 : goal.returns-in-Some-2
returns-in-Some-2 c =
    let said = said_of_text c.args.line.now c.in-Some.text.now c.in-Some.ensures c.is_empty.ensures c.if-is_empty.false c.if-line-gt-LINE_LIMIT.false in
    ap meaning_by (sym (rw c.in-Some-2.is at c.in_ok-step.ensures)) ∙ sym said ∙ ap meaning_of c.in-Some.ensures.0

pub read_call-requires : goal.read_call-requires
read_call-requires c = said_of_text c.args.line.now c.in-Some.text.now c.in-Some.ensures c.is_empty.ensures c.if-is_empty.false c.if-line-gt-LINE_LIMIT.false

pub returns-then-is_likely_call : goal.returns-then-is_likely_call
returns-then-is_likely_call c = subst (λ l. IfOk c.read_call.result (λ said. said ≡ meaning_of l)) c.in-Some.ensures.0 c.read_call.ensures

pub read_text-requires : goal.read_text-requires
read_text-requires c = said_of_text c.args.line.now c.in-Some.text.now c.in-Some.ensures c.is_empty.ensures c.if-is_empty.false c.if-line-gt-LINE_LIMIT.false

pub returns : goal.returns
returns c = subst (λ l. IfOk c.read_text.result (λ said. said ≡ meaning_of l)) c.in-Some.ensures.0 c.read_text.ensures
