pub mod Register
pub mod inside
