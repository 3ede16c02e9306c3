use Rattle.std.proofs.Common.{sym, ap, ◌∙◌}
use Rattle.line_parser.specs.Meaning.{meaning_by}
use Rattle.line_parser.proofs.Meaning.{said_of_asked, said_of_long, said_of_empty}
use Rattle.line_parser.proofs.reading.read_any_line.Goals as goal

pub returns-then-is_empty : goal.returns-then-is_empty
returns-then-is_empty c = sym (said_of_empty c.args.line.now c.is_empty.ensures c.if-is_empty.true)

pub returns-then-line-gt-LINE_LIMIT : goal.returns-then-line-gt-LINE_LIMIT
returns-then-line-gt-LINE_LIMIT c = sym (said_of_long c.args.line.now c.if-line-gt-LINE_LIMIT.true)

pub returns : goal.returns
returns c =
    c.line_of.ensures ∙ ap meaning_by (sym c.in_ok-step.ensures) ∙ sym (said_of_asked c.args.line.now c.is_empty.ensures c.if-is_empty.false c.if-line-gt-LINE_LIMIT.false)
