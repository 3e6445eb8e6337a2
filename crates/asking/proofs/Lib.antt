pub mod AskReplies
pub mod BoardReplies
