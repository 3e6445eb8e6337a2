pub mod Cases
pub mod WindowLaws
pub mod Ceil
