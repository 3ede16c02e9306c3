pub mod Answering
pub mod Apart
pub mod Idle
pub mod Certain
pub mod Untold
pub mod Waiting
