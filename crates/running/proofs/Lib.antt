pub mod ReadingLaws
pub mod TurnLaws
pub mod WholeLaws
