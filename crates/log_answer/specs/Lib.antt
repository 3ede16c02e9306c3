pub mod Answers
pub mod Starts
pub mod Runs
pub mod Laws
pub mod inside
