-- For contracts of parts and for proofs. No promise of the silo or of the program stands on it.
pub mod Reading
