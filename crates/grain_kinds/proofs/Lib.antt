pub mod Reading
pub mod Shortcuts
pub mod Fields
pub mod Members
pub mod KeepSame
pub mod Newer
