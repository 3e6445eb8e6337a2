pub mod BoardLaws
pub mod RoomLaws
pub mod JournalLaws
pub mod TurnLaws
pub mod WholeLaws
