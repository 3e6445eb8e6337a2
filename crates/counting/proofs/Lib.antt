pub mod PairLaws
pub mod EntryLaws
