pub mod Contents
pub mod Kept
pub mod inside
