pub mod Listing
pub mod Rows
pub mod Laws
pub mod inside
