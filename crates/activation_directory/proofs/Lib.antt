pub mod Places
pub mod Sizes
pub mod Registers
pub mod Numbers
pub mod Order
