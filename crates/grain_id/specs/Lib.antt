pub mod Words
pub mod Names
pub mod Reading
pub mod Order
pub mod Hashing
pub mod inside
