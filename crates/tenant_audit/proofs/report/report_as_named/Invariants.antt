use Rattle.tenant_audit.proofs.report.report_as_named.Given as goal

abbrev pub ghosts-report_at : goal.ghosts-report_at
ghosts-report_at a = record { version = a.journal.now.kinds }
