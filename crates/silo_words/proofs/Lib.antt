pub mod WordLemmas
pub mod PartLemmas
pub mod TableLemmas
pub mod AgeLemmas
