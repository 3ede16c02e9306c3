pub mod Trying
pub mod Delivering
pub mod Dropped
pub mod OwnTexts
pub mod Asked
pub mod LineRuns
pub mod Alone
pub mod First
