pub mod PickLaws
pub mod PickReplies
