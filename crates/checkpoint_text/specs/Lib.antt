pub mod Text
pub mod Rules
pub mod Answers
pub mod inside
