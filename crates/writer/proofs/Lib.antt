pub mod NumberLaws
pub mod StoredLaws
pub mod PartLaws
pub mod RecordLaws
