pub mod Notes
pub mod Ages
pub mod inside
