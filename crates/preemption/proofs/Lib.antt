pub mod Credits
pub mod Preempts
