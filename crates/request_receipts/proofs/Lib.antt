pub mod Apart
pub mod Changes
pub mod Counts
pub mod Limited
pub mod Lists
pub mod Once
pub mod Staying
pub mod Tables
