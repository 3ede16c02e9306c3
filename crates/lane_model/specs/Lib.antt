pub mod Asking
pub mod Pacing
pub mod Lanes
pub mod Serving
pub mod Candidates
pub mod Counting
