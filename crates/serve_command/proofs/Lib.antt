mod Opened
pub mod Stops
pub mod ServingLemmas
pub mod AskedJournals
