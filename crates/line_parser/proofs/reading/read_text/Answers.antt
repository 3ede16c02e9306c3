use Rattle.std.proofs.Common.{sym, ap, ◌∙◌}
use Rattle.line_parser.specs.Meaning.{meaning_by}
use Rattle.line_parser.proofs.reading.read_text.Goals as goal

pub returns-in-Ok : goal.returns-in-Ok
returns-in-Ok c = c.line_of.ensures ∙ ap meaning_by (sym c.in-Ok.ensures) ∙ sym c.requires
