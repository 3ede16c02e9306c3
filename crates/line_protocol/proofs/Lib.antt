pub mod StepTexts
pub mod OwnLines
pub mod Unfailed
pub mod Run
