pub mod AnswerLaws
pub mod LineExamples
pub mod LineLaws
pub mod ReplyLaws
