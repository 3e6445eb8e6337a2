pub mod Meaning
pub mod Replies
