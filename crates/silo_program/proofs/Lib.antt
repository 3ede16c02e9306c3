pub mod FaultLemmas
pub mod SeedLemmas
pub mod TaskLemmas
