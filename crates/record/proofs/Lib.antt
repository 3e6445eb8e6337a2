pub mod FrontLaws
pub mod LineLaws
pub mod RoomLaws
pub mod DoneLaws
