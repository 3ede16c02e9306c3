pub mod Rule
pub mod Beside
