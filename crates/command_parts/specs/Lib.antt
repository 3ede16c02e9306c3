pub mod Status
pub mod Streams
pub mod Files
pub mod Journals
pub mod Setups
pub mod Kept
