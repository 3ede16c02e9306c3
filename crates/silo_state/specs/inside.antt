-- For contracts of parts and for proofs. No promise of the silo, of journals or of the program stands on it.
pub mod Activations
pub mod Arrivals
pub mod AtOnce
pub mod Changes
pub mod Held
pub mod Notes
pub mod Overwrites
pub mod Requests
pub mod Resuming
pub mod Sends
pub mod Storing
pub mod Sweeps
pub mod Versions
