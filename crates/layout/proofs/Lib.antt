pub mod LayoutLaws
pub mod RowLaws
