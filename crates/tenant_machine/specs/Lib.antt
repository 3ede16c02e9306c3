pub mod Machines
pub mod inside
