pub mod Counted
pub mod PartsOfSound
pub mod SoundOfParts
pub mod Agreeing
