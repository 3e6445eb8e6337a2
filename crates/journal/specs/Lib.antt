pub mod Numbers
pub mod Records
pub mod Journals
pub mod Replays
pub mod Told
pub mod Writes
