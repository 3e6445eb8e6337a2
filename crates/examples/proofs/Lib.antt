pub mod Examples
pub mod Tallies
pub mod Recovery
pub mod Searched
