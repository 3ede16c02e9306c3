pub mod Led
pub mod Left
pub mod Luck
pub mod Done
pub mod Ends
pub mod Going
pub mod Kept
pub mod Passed
mod Paused
pub mod Parts
mod Room
pub mod Passing
pub mod Lives
pub mod Own
