pub mod Readings
pub mod Chosen
