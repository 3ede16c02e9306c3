pub mod Words
pub mod Commands
pub mod Parts
pub mod Ages
pub mod Tenants
