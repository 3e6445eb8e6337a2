pub mod JobLaws
pub mod Ranges
