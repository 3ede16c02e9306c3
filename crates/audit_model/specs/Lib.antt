pub mod Parts
pub mod Difference
pub mod Report
pub mod Numbers
