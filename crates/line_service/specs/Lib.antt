pub mod Asked
pub mod ServedText
pub mod Reasons
pub mod Counts
pub mod inside
