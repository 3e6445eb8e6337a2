pub mod Lefts
pub mod Pairs
pub mod FirstBelow
pub mod Rows
pub mod Rooms
pub mod Waits
