use Rattle.journal_commands.proofs.MigrationLemmas.{breaks_off, migrates}
use Rattle.journal_commands.proofs.migrating.migrate_file.Goals as goal

pub returns-clause-migrated : goal.returns-clause-migrated
returns-clause-migrated g c = migrates _ _ c.in_ok-text.ensures.migrated _ _ _ c.as_slice.ensures.value c.put.result c.put.ensures.whole

pub returns-clause-fault : goal.returns-clause-fault
returns-clause-fault g c = breaks_off _ _ c.in_ok-text.ensures.migrated _ _ _ c.as_slice.ensures.value _ _ c.put.result c.put.ensures.part
