pub mod Keys
pub mod Shown
pub mod Steps
pub mod Apart
pub mod Collected
