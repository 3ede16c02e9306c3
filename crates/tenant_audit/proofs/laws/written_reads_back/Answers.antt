use Rattle.tenant_audit.proofs.ReadBack as lemmas
use Rattle.tenant_audit.proofs.laws.written_reads_back.Goals as goal

pub returns-clause-read : goal.returns-clause-read
returns-clause-read c = lemmas.reads_back

pub returns-clause-report : goal.returns-clause-report
returns-clause-report c = lemmas.reports_none
