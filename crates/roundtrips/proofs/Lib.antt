pub mod ReadBack
pub mod NumberBack
pub mod WriteBack
pub mod Calls
pub mod RoundTrips
