pub mod NewJob
