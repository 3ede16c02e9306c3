use Rattle.journal_text.proofs.Common.{List, ℕ, subst, sym, ReadsRest}
use Rattle.journal_text.proofs.Forms.{reads_journal}
use Rattle.journal_text.proofs.journal_reader.read_journal.Goals as goal

pub returns-in-Ok : goal.returns-in-Ok
returns-in-Ok c =
    reads_journal c.in-Ok.start.form c.args.bytes.now c.read_parts.result (subst (λ (bytes : List ℕ). ReadsRest c.in-Ok.start.form bytes c.read_parts.result) (sym c.in-Ok.ensures.2) c.read_parts.ensures)
