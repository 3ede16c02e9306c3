pub mod SetupCopy
pub mod inside
