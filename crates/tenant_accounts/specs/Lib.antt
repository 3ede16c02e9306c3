pub mod Kept
pub mod Sends
pub mod Parts
pub mod inside
