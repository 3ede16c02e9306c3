pub mod Fits
pub mod Nodes
pub mod Shapes
pub mod KeepSame
