use Rattle.std.proofs.Common.{length}
use Rattle.journal_text.proofs.JournalReads.{Read}
use Rattle.journal_text.proofs.journal_reader.read_parts.Given as goal

abbrev pub invariant-lines : goal.invariant-lines
invariant-lines l = Read l.fn.form l.fn.kinds l.fn.age l.bytes l.draft l.rest l.number

abbrev pub decreases-lines : goal.decreases-lines
decreases-lines l = length l.rest
