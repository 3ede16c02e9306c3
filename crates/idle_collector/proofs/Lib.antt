pub mod Due
pub mod Aside
pub mod Sets
pub mod AgesOf
pub mod AgeTables
