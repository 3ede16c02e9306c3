pub mod Versions
pub mod Rows
pub mod Kinds
pub mod LawsOfKinds
pub mod VersionNumbers
pub mod inside
