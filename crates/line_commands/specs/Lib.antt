pub mod Steps
pub mod Answering
pub mod Laws
