pub mod Program
pub mod Arguments
pub mod Ends
