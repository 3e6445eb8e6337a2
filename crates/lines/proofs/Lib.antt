pub mod FirstLaws
pub mod NumberLaws
pub mod PutLaws
pub mod ReadingLaws
pub mod SetupLaws
pub mod WordLaws
