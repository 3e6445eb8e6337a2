pub mod Preempting
