pub mod GroupLaws
pub mod FieldLaws
