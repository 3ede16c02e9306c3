pub mod Givers
pub mod Lanes
pub mod Added
pub mod Places
mod Written
mod Collected
mod Ordered
pub mod TellingLemmas
