use Rattle.journal_text.proofs.line_writer.push_head.Goals as goal

pub returns : goal.returns
returns c = rw c.text-number.ensures at c.write.ensures.bytes
