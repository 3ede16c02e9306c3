pub mod Paced
pub mod Answered
pub mod AtWork
pub mod Served
