pub mod Sizes
pub mod Scores
pub mod Searches
pub mod Arrivals
