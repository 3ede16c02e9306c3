pub mod Owing
pub mod Turns
pub mod Served
pub mod Batches
