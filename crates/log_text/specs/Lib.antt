pub mod Lines
pub mod Sums
pub mod Batches
pub mod Reading
pub mod Answers
pub mod Head
pub mod Laws
