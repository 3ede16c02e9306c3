pub mod Limits
pub mod Trying
pub mod Delivering
pub mod Dropped
pub mod Texts
pub mod Runs
pub mod Laws
