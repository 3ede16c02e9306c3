pub mod Order
pub mod Keys
pub mod ByGrain
pub mod Reading
pub mod Places
