pub mod Notes
pub mod LawsOfNotes
