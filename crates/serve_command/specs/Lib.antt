pub mod Lanes
pub mod Telling
pub mod Serving
pub mod Laws
