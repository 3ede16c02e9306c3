pub mod Known
pub mod Moments
pub mod Starts
pub mod Lives
pub mod Crashes
