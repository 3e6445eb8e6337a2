pub mod Groups
pub mod Grouping
pub mod GroupsHold
