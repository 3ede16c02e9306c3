-- For contracts of parts and for proofs. No promise of the silo, of journals or of the program stands on it.
pub mod Argument
pub mod CallMembers
pub mod Fields
pub mod LineMembers
pub mod Number
pub mod NotNatural
pub mod PassedMembers
pub mod Plain
pub mod QuickFault
pub mod ShortLine
pub mod Step
