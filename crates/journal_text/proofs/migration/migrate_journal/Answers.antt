use Rattle.journal_text.proofs.migration.migrate_journal.Goals as goal

pub returns-in_ok-text-in-Ok : goal.returns-in_ok-text-in-Ok
returns-in_ok-text-in-Ok c = record { journal = c.in-Ok.journal; read = c.in-Ok.ensures; rewritten = c.in_ok-text-in-Ok.ensures }
