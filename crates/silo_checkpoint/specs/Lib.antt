pub mod Saved
pub mod Answers
pub mod inside
