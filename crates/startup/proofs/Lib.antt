pub mod FirstLaws
pub mod SetupReplies
