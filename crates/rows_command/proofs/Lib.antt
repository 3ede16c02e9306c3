pub mod States
pub mod Puts
pub mod Points
pub mod Prints
