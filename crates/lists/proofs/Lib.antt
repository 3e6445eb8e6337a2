pub mod Listed
pub mod Moving
