use Rattle.journal_text.proofs.Common.{None, BeginsWithLine}
use Rattle.journal_text.specs.declared.line.Line.TheVariants as line
use Rattle.journal_text.proofs.journal_reader.next_age.Goals as goal

pub returns-in_default : goal.returns-in_default
returns-in_default c age behind is same =
    let none : BeginsWithLine c.args.form c.args.bytes.now None = rw c.in_default.is at c.in_ok-line.ensures in
    none (line.Age age) behind is same
