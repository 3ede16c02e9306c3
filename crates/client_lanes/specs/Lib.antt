pub mod Foreign
pub mod inside
