pub mod Form
pub mod RecordedFault
pub mod RecordedReply
pub mod Text
pub mod Rules
pub mod FirstFault
pub mod JournalAnswers
pub mod inside
