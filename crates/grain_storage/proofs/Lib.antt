pub mod Entries
pub mod Changes
pub mod Ascending
pub mod Failing
pub mod RowsCompared
