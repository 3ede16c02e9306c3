-- For contracts of parts and for proofs. No promise of the silo, of journals or of the program stands on it.
pub mod LastMessage
pub mod Room
