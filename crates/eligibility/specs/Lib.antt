pub mod Eligibility
