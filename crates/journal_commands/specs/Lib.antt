pub mod Auditing
pub mod Migrating
