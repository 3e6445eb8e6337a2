pub mod Names
pub mod Setups
pub mod Texts
pub mod Words
