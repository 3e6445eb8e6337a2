pub mod Parting
pub mod Ordering
pub mod Filling
