pub mod Differences
pub mod Reports
pub mod Tenants
pub mod EachReport
mod Owned
pub mod Numbers
