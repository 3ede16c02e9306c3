-- For contracts of parts and for proofs. No promise of the silo, of journals or of the program stands on it.
pub mod Build
pub mod Converted
pub mod Ends
pub mod Level
pub mod Plain
pub mod SharedBytes
pub mod SmallBytes
