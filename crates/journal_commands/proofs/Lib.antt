pub mod AuditLemmas
pub mod MigrationLemmas
