pub mod IndexLemmas
pub mod Faults
pub mod Repeats
