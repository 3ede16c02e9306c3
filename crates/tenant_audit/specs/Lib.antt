pub mod ReportView
pub mod ReportText
pub mod Reading
pub mod ReadBack
pub mod inside
