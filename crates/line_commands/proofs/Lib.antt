pub mod EndLemmas
pub mod AnsweringLemmas
pub mod AskedJournals
