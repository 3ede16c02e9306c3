pub mod Owing
pub mod Places
pub mod Batched
