pub mod Acts
pub mod Files
pub mod Lasting
pub mod Laws
pub mod Memory
