use Rattle.std.proofs.Common.{ap, ◌∙◌, sym}
use Rattle.line_parser.specs.inside.Plain.{is_opener}
use Rattle.line_parser.proofs.PlainTokens.{goes_on}
use Rattle.line_parser.proofs.plain.has_item.Goals as goal

pub returns : goal.returns
returns c so = goes_on c.args.rest.now (ap is_opener (sym c.byte_at.ensures.value) ∙ sym c.opens.ensures ∙ so)
