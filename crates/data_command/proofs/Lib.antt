pub mod Starts
pub mod Replaced
pub mod Standing
pub mod Beginnings
pub mod Runs
pub mod Segments
pub mod OnLogs
mod Across
mod LeftOut
mod Rewordings
mod Carried
