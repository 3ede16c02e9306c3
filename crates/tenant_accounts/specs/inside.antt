-- For contracts of parts and for proofs. No promise of the silo, of journals or of the program stands on it.
pub mod Accounts
pub mod Deliveries
pub mod Lending
pub mod Numbers
pub mod Undelivered
