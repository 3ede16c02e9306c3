mod Listed
mod Journals
mod Spelled
pub mod OneSaved
