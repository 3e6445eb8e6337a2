pub mod RecordLaws
pub mod JobLaws
pub mod ReadingLaws
